-- Literals: the scanner and the definition.
use Rattle.std.proofs.Common.{◌≡◌, ℕ, ◌≤◌, ◌⊎◌, inl, inr, List, [], ◌∷◌, ◌++◌, length, replicate, refl, ap, sym, subst, ◌∙◌, true, false, ◌||◌, ◌==◌, Option, Some, None, append_assoc}
use Rattle.std.proofs.lemmas.Bool.{eqb-true, cases_Bool, or_right}
use Rattle.std.proofs.lemmas.List.Folds.{list_any-append}
use Rattle.std.specs.List.{list_any}
use Rattle.unicode_ident.specs.Ident.{is_xid_continue}
use Rattle.literals.specs.Literals.{is_digit, is_quote, starts_name, begins_literal, IsCharacter, plain, escaped, IsString, IsRawString, IsForm, number, character, byte, string, byte_string, c_string, raw_string, raw_byte_string, raw_c_string, IsSuffix, IsLiteral}
use Rattle.literals.specs.Scanning.{skip, after_string, after_raw_string, after_character, after_number, after_b, after_c, after_first, form_at, after_suffix, past_suffix, literal_at}
use Rattle.literals.specs.declared.strings.Escapes.TheVariants.{Listed, Any}
use Rattle.literals.proofs.RunLaws.{either, cond_true, cond_false, some_same, skip_split}
use Rattle.literals.proofs.StringLaws.{string_sound, AfterQuotes, string_reads}
use Rattle.literals.proofs.RawLaws.{raw_string_sound, raw_string_reads}
use Rattle.literals.proofs.QuotedLaws.{character_sound, AfterQuote, character_reads}
use Rattle.literals.proofs.NumberLaws.{number_sound, AfterDigit, number_reads, suffix_reads}

-- ---- what the scanner finds is a literal
abbrev pub Front : (List ℕ → Type 0) → List ℕ → List ℕ → Type 0
Front P text rest = (front : List ℕ) × (text ≡ front ++ rest) × P front

under : (P : List ℕ → Type 0) (cs rest : List ℕ) → ((front : List ℕ) → P front → IsForm front) → Front P cs rest → Front IsForm cs rest
under P cs rest f r = (r.0, r.1, f r.0 r.2)

behind : (P : List ℕ → Type 0) (c : ℕ) (cs rest : List ℕ) → ((front : List ℕ) → P front → IsForm (c ∷ front)) → Front P cs rest → Front IsForm (c ∷ cs) rest
behind P c cs rest f r = (c ∷ r.0, ap (λ v. c ∷ v) r.1, f r.0 r.2)

-- the second character is known by its test
second_is : (b c d : ℕ) (cs rest : List ℕ) → (c == d) ≡ true → Front IsForm (b ∷ d ∷ cs) rest → Front IsForm (b ∷ c ∷ cs) rest
second_is b c d cs rest e r = subst (λ v. Front IsForm (b ∷ v ∷ cs) rest) (sym (eqb-true c d e)) r

b_sound : (cs rest : List ℕ) → after_b cs ≡ Some rest → Front IsForm (98 ∷ cs) rest
b_sound [] rest e = cc
b_sound (c ∷ cs) rest e =
    elim (either (c == 34) e) [
      | inl h ↦ second_is 98 c 34 cs rest h.0 (behind (IsString _) 98 (34 ∷ cs) rest (λ f s. byte_string s) (string_sound Any cs rest h.1))
      | inr h ↦
          elim (either (c == 39) h.1) [
            | inl g ↦ second_is 98 c 39 cs rest g.0 (behind IsCharacter 98 (39 ∷ cs) rest (λ f s. byte s) (character_sound cs rest g.1))
            | inr g ↦
                elim (either (c == 114) g.1) [
                  | inl k ↦ second_is 98 c 114 cs rest k.0 (behind (λ f. IsForm (98 ∷ f)) 98 (114 ∷ cs) rest (λ f s. s) (prefixed cs rest k.1))
                  | inr k ↦ cc
                ]
          ]
    ]
  where
    prefixed : (cs rest : List ℕ) → after_raw_string 0 cs ≡ Some rest → Front (λ f. IsForm (98 ∷ f)) (114 ∷ cs) rest
    prefixed cs rest e = let r = raw_string_sound cs rest e in (114 ∷ r.0, ap (λ v. 114 ∷ v) r.1, raw_byte_string r.2)

c_sound : (cs rest : List ℕ) → after_c cs ≡ Some rest → Front IsForm (99 ∷ cs) rest
c_sound [] rest e = cc
c_sound (c ∷ cs) rest e =
    elim (either (c == 34) e) [
      | inl h ↦ second_is 99 c 34 cs rest h.0 (behind (IsString _) 99 (34 ∷ cs) rest (λ f s. c_string s) (string_sound Any cs rest h.1))
      | inr h ↦
          elim (either (c == 114) h.1) [
            | inl k ↦ let r = raw_string_sound cs rest k.1 in second_is 99 c 114 cs rest k.0 (99 ∷ 114 ∷ r.0, ap (λ v. 99 ∷ 114 ∷ v) r.1, raw_c_string r.2)
            | inr k ↦ cc
          ]
    ]

first_is : (c d : ℕ) (cs rest : List ℕ) → (c == d) ≡ true → Front IsForm (d ∷ cs) rest → Front IsForm (c ∷ cs) rest
first_is c d cs rest e r = subst (λ v. Front IsForm (v ∷ cs) rest) (sym (eqb-true c d e)) r

first_sound : (c : ℕ) (cs rest : List ℕ) → after_first c cs ≡ Some rest → Front IsForm (c ∷ cs) rest
first_sound c cs rest e =
    elim (either (c == 34) e) [
      | inl h ↦ first_is c 34 cs rest h.0 (under (IsString _) (34 ∷ cs) rest (λ f s. string s) (string_sound Listed cs rest h.1))
      | inr h1 ↦
          elim (either (c == 39) h1.1) [
            | inl h ↦ first_is c 39 cs rest h.0 (under IsCharacter (39 ∷ cs) rest (λ f s. character s) (character_sound cs rest h.1))
            | inr h2 ↦
                elim (either (c == 98) h2.1) [
                  | inl h ↦ first_is c 98 cs rest h.0 (b_sound cs rest h.1)
                  | inr h3 ↦
                      elim (either (c == 99) h3.1) [
                        | inl h ↦ first_is c 99 cs rest h.0 (c_sound cs rest h.1)
                        | inr h4 ↦
                            elim (either (c == 114) h4.1) [
                              | inl h ↦ first_is c 114 cs rest h.0 (behind IsRawString 114 cs rest (λ f s. raw_string s) (raw_string_sound cs rest h.1))
                              | inr h ↦ cc
                            ]
                      ]
                ]
          ]
    ]

form_sound : (text rest : List ℕ) → form_at text ≡ Some rest → Front IsForm text rest
form_sound [] rest e = cc
form_sound (c ∷ cs) rest e =
    elim (either (is_digit c) e) [
      | inl h ↦ let r = number_sound c cs h.0 in (r.0, r.1 ∙ ap (λ v. r.0 ++ v) (some_same h.1), number r.2)
      | inr h ↦ first_sound c cs rest h.1
    ]

suffix_split : (cs : List ℕ) → Front IsSuffix cs (after_suffix cs)
suffix_split [] = ([], refl, tt)
suffix_split (c ∷ cs) =
    let run = skip_split is_xid_continue cs in
    let word = skip is_xid_continue cs in
    elim (cases_Bool (starts_name c)) [
      | inl h ↦ (c ∷ run.0, ap (λ v. c ∷ v) run.1 ∙ ap (λ v. (c ∷ run.0) ++ v) (sym (cond_true word (c ∷ cs) (starts_name c) h)), (h, run.2))
      | inr h ↦ ([], sym (cond_false word (c ∷ cs) (starts_name c) h), tt)
    ]

past_form : (text rest : List ℕ) (found : Option (List ℕ)) → form_at text ≡ found → past_suffix found ≡ Some rest → Front IsLiteral text rest
past_form text rest None f e = cc
past_form text rest (Some mid) f e =
    let form = form_sound text mid f in
    let suffix = suffix_split mid in
    let left : mid ≡ suffix.0 ++ rest = suffix.1 ∙ ap (λ v. suffix.0 ++ v) (some_same e) in (
      form.0 ++ suffix.0,
      form.1 ∙ ap (λ v. form.0 ++ v) left ∙ sym (append_assoc form.0 suffix.0 rest),
      (form.0, suffix.0, refl, form.2, suffix.2),
    )

pub literal_sound : (text rest : List ℕ) → literal_at text ≡ Some rest → Front IsLiteral text rest
literal_sound text rest e = past_form text rest (form_at text) refl e

-- ---- whatever literal begins a text, the scanner reads no less of it
abbrev pub Reads : List ℕ → List ℕ → Type 0
Reads text rest = (r : List ℕ) × (literal_at text ≡ Some r) × (length r ≤ length rest)

-- a form that is read to its end
ended : (text suffix rest : List ℕ) → IsSuffix suffix → form_at text ≡ Some (suffix ++ rest) → Reads text rest
ended text suffix rest s e = (after_suffix (suffix ++ rest), ap past_suffix e, suffix_reads suffix rest s)

number_form : (cs suffix rest : List ℕ) → AfterDigit (λ c cs. length (after_suffix (after_number c (cs ++ (suffix ++ rest)))) ≤ length rest) cs → Reads (cs ++ (suffix ++ rest)) rest
number_form [] suffix rest n = absurd n
number_form (c ∷ cs) suffix rest n =
    let ys = cs ++ (suffix ++ rest) in
    let found : form_at (c ∷ ys) ≡ Some (after_number c ys) = cond_true (Some (after_number c ys)) (after_first c ys) (is_digit c) n.0 in
    (after_suffix (after_number c ys), ap past_suffix found, n.1)

string_form : (cs ys : List ℕ) → AfterQuotes (λ ds. after_string Listed false (ds ++ ys) ≡ Some ys) cs → form_at (cs ++ ys) ≡ Some ys
string_form [] ys q = absurd q
string_form (c ∷ cs) ys q = ap (λ v. form_at (v ∷ (cs ++ ys))) q.0 ∙ q.1

byte_string_form : (cs ys : List ℕ) → AfterQuotes (λ ds. after_string Any false (ds ++ ys) ≡ Some ys) cs → form_at (98 ∷ (cs ++ ys)) ≡ Some ys
byte_string_form [] ys q = absurd q
byte_string_form (c ∷ cs) ys q = ap (λ v. after_b (v ∷ (cs ++ ys))) q.0 ∙ q.1

c_string_form : (cs ys : List ℕ) → AfterQuotes (λ ds. after_string Any false (ds ++ ys) ≡ Some ys) cs → form_at (99 ∷ (cs ++ ys)) ≡ Some ys
c_string_form [] ys q = absurd q
c_string_form (c ∷ cs) ys q = ap (λ v. after_c (v ∷ (cs ++ ys))) q.0 ∙ q.1

character_form : (cs ys : List ℕ) → AfterQuote (λ ds. after_character (ds ++ ys) ≡ Some ys) cs → form_at (cs ++ ys) ≡ Some ys
character_form [] ys q = absurd q
character_form (c ∷ cs) ys q = ap (λ v. form_at (v ∷ (cs ++ ys))) q.0 ∙ q.1

byte_form : (cs ys : List ℕ) → AfterQuote (λ ds. after_character (ds ++ ys) ≡ Some ys) cs → form_at (98 ∷ (cs ++ ys)) ≡ Some ys
byte_form [] ys q = absurd q
byte_form (c ∷ cs) ys q = ap (λ v. after_b (v ∷ (cs ++ ys))) q.0 ∙ q.1

form_reads : (form suffix rest : List ℕ) → IsForm form → IsSuffix suffix → Reads (form ++ (suffix ++ rest)) rest
form_reads form suffix rest (number n) s = number_form form suffix rest (number_reads form suffix rest n s)
form_reads form suffix rest (character n) s = let ys = suffix ++ rest in ended (form ++ ys) suffix rest s (character_form form ys (character_reads form ys n))
form_reads form suffix rest (byte {cs = cs} n) s = let ys = suffix ++ rest in ended (98 ∷ (cs ++ ys)) suffix rest s (byte_form cs ys (character_reads cs ys n))
form_reads form suffix rest (string n) s = let ys = suffix ++ rest in ended (form ++ ys) suffix rest s (string_form form ys (string_reads Listed form ys n))
form_reads form suffix rest (byte_string {cs = cs} n) s = let ys = suffix ++ rest in ended (98 ∷ (cs ++ ys)) suffix rest s (byte_string_form cs ys (string_reads Any cs ys n))
form_reads form suffix rest (c_string {cs = cs} n) s = let ys = suffix ++ rest in ended (99 ∷ (cs ++ ys)) suffix rest s (c_string_form cs ys (string_reads Any cs ys n))
form_reads form suffix rest (raw_string {cs = cs} n) s = let ys = suffix ++ rest in ended (114 ∷ (cs ++ ys)) suffix rest s (raw_string_reads cs ys n)
form_reads form suffix rest (raw_byte_string {cs = cs} n) s = let ys = suffix ++ rest in ended (98 ∷ 114 ∷ (cs ++ ys)) suffix rest s (raw_string_reads cs ys n)
form_reads form suffix rest (raw_c_string {cs = cs} n) s = let ys = suffix ++ rest in ended (99 ∷ 114 ∷ (cs ++ ys)) suffix rest s (raw_string_reads cs ys n)

pub literal_reads : (front rest : List ℕ) → IsLiteral front → Reads (front ++ rest) rest
literal_reads front rest l =
    let here : front ++ rest ≡ l.0 ++ (l.1 ++ rest) = ap (λ v. v ++ rest) l.2 ∙ append_assoc l.0 l.1 rest in
    subst (λ v. Reads v rest) (sym here) (form_reads l.0 l.1 rest l.3 l.4)

-- ---- how literals begin
abbrev pub Begins : List ℕ → Type 0
Begins [] = ⊥
Begins (c ∷ cs) = ((is_digit c ≡ true) ⊎ (list_any is_quote cs ≡ true)) × (begins_literal c ≡ true)

has_quote : (xs ys : List ℕ) (q : ℕ) → is_quote q ≡ true → list_any is_quote (xs ++ q ∷ ys) ≡ true
has_quote [] ys q h = ap (λ v. v || list_any is_quote ys) h
has_quote (x ∷ xs) ys q h = or_right (is_quote x) (list_any is_quote (xs ++ q ∷ ys)) (has_quote xs ys q h)

number_begins : (cs : List ℕ) (P : ℕ → List ℕ → Type 0) → AfterDigit P cs → Begins cs
number_begins [] P n = absurd n
number_begins (c ∷ cs) P n = (inl n.0, ap (λ v. v || is_quote c || (c == 98) || (c == 99) || (c == 114)) n.0)

character_begins : (cs : List ℕ) → IsCharacter cs → Begins cs
character_begins cs (plain {c = c} h) = (inr (has_quote (c ∷ []) [] 39 refl), refl)
character_begins cs (escaped {c = c} ds h) = (inr (has_quote (92 ∷ c ∷ ds) [] 39 refl), refl)

character_quote : (cs : List ℕ) → IsCharacter cs → list_any is_quote cs ≡ true
character_quote cs (plain h) = refl
character_quote cs (escaped ds h) = refl

string_quote : (E : List ℕ → Type 0) (cs : List ℕ) → IsString E cs → list_any is_quote cs ≡ true
string_quote E cs s = ap (list_any is_quote) s.1

raw_quote : (cs : List ℕ) → IsRawString cs → list_any is_quote cs ≡ true
raw_quote cs r = ap (list_any is_quote) r.4 ∙ has_quote (replicate r.0 35) (r.1 ++ 34 ∷ replicate r.0 35) 34 refl

form_begins : (form : List ℕ) → IsForm form → Begins form
form_begins form (number n) = number_begins form _ (number_reads form [] [] n tt)
form_begins form (character n) = character_begins form n
form_begins form (byte {cs = cs} n) = (inr (character_quote cs n), refl)
form_begins form (string s) = subst Begins (sym s.1) (inr (has_quote s.0 [] 34 refl), refl)
form_begins form (byte_string {cs = cs} s) = (inr (string_quote _ cs s), refl)
form_begins form (c_string {cs = cs} s) = (inr (string_quote _ cs s), refl)
form_begins form (raw_string {cs = cs} r) = (inr (raw_quote cs r), refl)
form_begins form (raw_byte_string {cs = cs} r) = (inr (raw_quote cs r), refl)
form_begins form (raw_c_string {cs = cs} r) = (inr (raw_quote cs r), refl)

begins_more : (xs ys : List ℕ) → Begins xs → Begins (xs ++ ys)
begins_more [] ys b = absurd b
begins_more (x ∷ xs) ys b = elim b.0 [
  | inl d ↦ (inl d, b.1)
  | inr q ↦ (inr (list_any-append is_quote xs ys ∙ ap (λ v. v || list_any is_quote ys) q), b.1)
]

pub literal_begins : (cs : List ℕ) → IsLiteral cs → Begins cs
literal_begins cs l = subst Begins (sym l.2) (begins_more l.0 l.1 (form_begins l.0 l.3))
