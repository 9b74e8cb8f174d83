-- Identifiers, as a scanner finds them.
use Rattle.std.proofs.Common.{◌≡◌, ℕ, ◌≤◌, inl, inr, List, [], ◌∷◌, ◌++◌, length, refl, ap, sym, subst, ◌∙◌, arith, cond, true, false, ◌==◌, Option, Some, None, length-append, drop}
use Rattle.std.proofs.lemmas.Bool.{eqb-true, and_parts, or_from}
use Rattle.std.specs.List.{list_all, list_any}
use Rattle.unicode_ident.specs.Ident.{is_xid_continue}
use Rattle.literals.specs.Literals.{is_digit, is_quote, starts_name}
use Rattle.literals.specs.Scanning.{skip}
use Rattle.lexing.specs.Pieces.{begins_with, begins_with_two, IsName, IsIdentifier}
use Rattle.lexing.specs.Scanning.{name_at, first_of_both, raw_name_at, identifier_at}
use Rattle.literals.proofs.Laws.{either, skip_split, skip_least, name_no_digit}
use Rattle.lexing.proofs.Classes.{name_no_quote, word_no_quote, hash_no_word, r_starts_name}

-- ---- two characters at the front
begins_is : (c : ℕ) (cs : List ℕ) → begins_with c cs ≡ true → (rest : List ℕ) × (cs ≡ c ∷ rest)
begins_is c [] h = cc
begins_is c (d ∷ ds) h = (ds, ap (λ v. v ∷ ds) (eqb-true d c h))

two_are : (a b : ℕ) (text : List ℕ) → begins_with_two a b text ≡ true → (rest : List ℕ) × (text ≡ a ∷ b ∷ rest)
two_are a b [] h = cc
two_are a b (c ∷ cs) h =
    let both = and_parts (c == a) (begins_with b cs) h in
    let second = begins_is b cs both.1 in
    (second.0, ap (λ v. v ∷ cs) (eqb-true c a both.0) ∙ ap (λ v. a ∷ v) second.1)

-- ---- what is found is an identifier
name_sound : (text rest : List ℕ) → name_at text ≡ Some rest → (front : List ℕ) × (text ≡ front ++ rest) × IsName front
name_sound [] rest e = cc
name_sound (c ∷ cs) rest e =
    elim (either (starts_name c) e) [
      | inl h ↦
          let run = skip_split is_xid_continue cs in
          let left : skip is_xid_continue cs ≡ rest = cc (h.1) in
          (c ∷ run.0, ap (λ v. c ∷ v) run.1 ∙ ap (λ v. c ∷ (run.0 ++ v)) left, (h.0, run.2))
      | inr h ↦ cc
    ]

raw_sound : (text rest : List ℕ) → raw_name_at text ≡ Some rest → (front : List ℕ) × (text ≡ front ++ rest) × IsIdentifier front
raw_sound text rest e =
    elim (either (begins_with_two 114 35 text) e) [
      | inl h ↦
          let two = two_are 114 35 text h.0 in
          let name : name_at two.0 ≡ Some rest = subst (λ v. name_at (drop 2 v) ≡ Some rest) two.1 h.1 in
          let found = name_sound two.0 rest name in
          (114 ∷ 35 ∷ found.0, two.1 ∙ ap (λ v. 114 ∷ 35 ∷ v) found.1, inr (found.0, refl, found.2))
      | inr h ↦ cc
    ]

of_both : (text : List ℕ) (raw : Option (List ℕ)) (rest : List ℕ) → raw_name_at text ≡ raw → first_of_both raw (name_at text) ≡ Some rest → (front : List ℕ) × (text ≡ front ++ rest) × IsIdentifier front
of_both text None rest r e = let found = name_sound text rest e in (found.0, found.1, inl found.2)
of_both text (Some other) rest r e = raw_sound text rest (r ∙ e)

pub identifier_sound : (text rest : List ℕ) → identifier_at text ≡ Some rest → (front : List ℕ) × (text ≡ front ++ rest) × IsIdentifier front
identifier_sound text rest e = of_both text (raw_name_at text) rest refl e

-- ---- no less is found than any identifier that begins there
abbrev ReadsAt : (List ℕ → Option (List ℕ)) → List ℕ → List ℕ → Type 0
ReadsAt reader text less = (rest : List ℕ) × (reader text ≡ Some rest) × (length rest ≤ length less)

name_reads : (long less : List ℕ) → IsName long → ReadsAt name_at (long ++ less) less
name_reads [] less h = absurd h
name_reads (c ∷ cs) less h = (skip is_xid_continue (cs ++ less), ap (λ v. cond v (Some (skip is_xid_continue (cs ++ less))) None) h.0, skip_least is_xid_continue cs less h.1)

name_short : (text rest : List ℕ) → name_at text ≡ Some rest → length rest ≤ length text
name_short text rest e = let found = name_sound text rest e in omega (arith, ap length found.1, length-append found.0 rest)

no_hash : (cs : List ℕ) → list_all is_xid_continue (35 ∷ cs) ≡ true → ⊥
no_hash cs h = let first = (and_parts (is_xid_continue 35) (list_all is_xid_continue cs) h).0 in let no = hash_no_word in cc

-- a raw name that begins with a name is longer than it
raw_longer : (long less rest : List ℕ) → IsName long → (text : List ℕ) → long ++ less ≡ 114 ∷ 35 ∷ text → name_at text ≡ Some rest → length rest ≤ length less
raw_longer [] less rest h text e n = absurd h
raw_longer (c ∷ []) less rest h text e n = let tails : less ≡ 35 ∷ text = cc in omega (arith, name_short text rest n, ap length tails)
raw_longer (c ∷ d ∷ ds) less rest h text e n = let second : d ≡ 35 = cc in absurd (no_hash ds (subst (λ v. list_all is_xid_continue (v ∷ ds) ≡ true) second h.1))

raw_case : (long less : List ℕ) → IsName long → (raw : Option (List ℕ)) → raw_name_at (long ++ less) ≡ raw → ReadsAt identifier_at (long ++ less) less
raw_case long less h None r =
    let name = name_reads long less h in
    (name.0, ap (λ v. first_of_both v (name_at (long ++ less))) r ∙ name.1, name.2)
raw_case long less h (Some rest) r =
    let short : length rest ≤ length less =
    elim (either (begins_with_two 114 35 (long ++ less)) r) [
      | inl k ↦
          let two = two_are 114 35 (long ++ less) k.0 in
          raw_longer long less rest h two.0 two.1 (subst (λ v. name_at (drop 2 v) ≡ Some rest) two.1 k.1)
      | inr k ↦ cc
    ] in
    (rest, ap (λ v. first_of_both v (name_at (long ++ less))) r, short)

raw_reads : (long less name : List ℕ) → long ≡ 114 ∷ 35 ∷ name → IsName name → ReadsAt identifier_at (long ++ less) less
raw_reads long less name e h =
    let found = name_reads name less h in
    subst (λ v. ReadsAt identifier_at (v ++ less) less) (sym e) (found.0, ap (λ v. first_of_both v (name_at (114 ∷ 35 ∷ (name ++ less)))) found.1, found.2)

pub identifier_reads : (long less : List ℕ) → IsIdentifier long → ReadsAt identifier_at (long ++ less) less
identifier_reads long less (inl h) = raw_case long less h (raw_name_at (long ++ less)) refl
identifier_reads long less (inr h) = raw_reads long less h.0 h.1 h.2

-- ---- what an identifier holds
words_no_quote : (cs : List ℕ) → list_all is_xid_continue cs ≡ true → list_any is_quote cs ≡ false
words_no_quote [] h = refl
words_no_quote (c ∷ cs) h =
    let both = and_parts (is_xid_continue c) (list_all is_xid_continue cs) h in
    or_from (is_quote c) (list_any is_quote cs) (word_no_quote c both.0) (words_no_quote cs both.1)

name_quoteless : (cs : List ℕ) → IsName cs → list_any is_quote cs ≡ false
name_quoteless [] h = absurd h
name_quoteless (c ∷ cs) h = or_from (is_quote c) (list_any is_quote cs) (name_no_quote c h.0) (words_no_quote cs h.1)

pub identifier_quoteless : (cs : List ℕ) → IsIdentifier cs → list_any is_quote cs ≡ false
identifier_quoteless cs (inl h) = name_quoteless cs h
identifier_quoteless cs (inr h) = ap (list_any is_quote) h.1 ∙ name_quoteless h.0 h.2

pub identifier_starts : (c : ℕ) (cs : List ℕ) → IsIdentifier (c ∷ cs) → starts_name c ≡ true
identifier_starts c cs (inl h) = h.0
identifier_starts c cs (inr h) = let first : c ≡ 114 = (let whole = h.1 in cc) in ap starts_name first ∙ r_starts_name

pub identifier_digitless : (c : ℕ) (cs : List ℕ) → IsIdentifier (c ∷ cs) → is_digit c ≡ false
identifier_digitless c cs h = name_no_digit c (identifier_starts c cs h)

pub no_identifier : IsIdentifier [] → ⊥
no_identifier (inl h) = h
no_identifier (inr h) = let whole = h.1 in cc
