-- Raw strings that are never closed.
use Rattle.std.proofs.Common.{◌≡◌, ℕ, zero, suc, ◌+◌, ◌-◌, ◌≤◌, ◌⊎◌, inl, inr, List, [], ◌∷◌, ◌++◌, refl, ap, sym, subst, ◌∙◌, arith, cond, Bool, true, false, ◌||◌, ◌&&◌, ◌==◌, nat_lt, Option, Some, None}
use Rattle.std.proofs.lemmas.Bool.{eqb-true, and_parts, or_cases}
use Rattle.std.proofs.lemmas.Bool.Decides.{nat_tests}
use Rattle.literals.specs.Scanning.{after_hashes, first_of, after_raw_text, after_raw_string, form_at, past_suffix, literal_at}
use Rattle.lexing.specs.RawStrings.{hashes_at, after_letter, opening_at, NoneCloses}
use Rattle.literals.proofs.Laws.{either}

-- ---- what no quote closes, none further on closes, nor one with more signs #
both_none : (a b : Option (List ℕ)) → first_of a b ≡ None → (a ≡ None) × (b ≡ None)
both_none None b e = (refl, e)
both_none (Some cs) b e = cc

fewer : (b : Bool) (n : ℕ) (cs : List ℕ) → (after_hashes n cs ≡ None → after_hashes (suc n) cs ≡ None) → cond b (after_hashes n cs) None ≡ None → cond b (after_hashes (suc n) cs) None ≡ None
fewer true n cs f e = f e
fewer false n cs f e = refl

hashes_more : (n : ℕ) (cs : List ℕ) → after_hashes n cs ≡ None → after_hashes (suc n) cs ≡ None
hashes_more zero cs e = cc
hashes_more (suc n) [] e = refl
hashes_more (suc n) (c ∷ cs) e = fewer (c == 35) n cs (hashes_more n cs) e

closes_more : (b : Bool) (n : ℕ) (cs : List ℕ) → (after_raw_text n cs ≡ None → after_raw_text (suc n) cs ≡ None)
    → cond b (first_of (after_hashes n cs) (after_raw_text n cs)) (after_raw_text n cs) ≡ None → cond b (first_of (after_hashes (suc n) cs) (after_raw_text (suc n) cs)) (after_raw_text (suc n) cs) ≡ None
closes_more true n cs f e = let both = both_none (after_hashes n cs) (after_raw_text n cs) e in ap (λ v. first_of v (after_raw_text (suc n) cs)) (hashes_more n cs both.0) ∙ f both.1
closes_more false n cs f e = f e

one_more : (n : ℕ) (cs : List ℕ) → after_raw_text n cs ≡ None → after_raw_text (suc n) cs ≡ None
one_more n [] e = refl
one_more n (c ∷ cs) e = closes_more (c == 34) n cs (one_more n cs) e

raised : ℕ → ℕ → ℕ
raised zero n = n
raised (suc k) n = suc (raised k n)

raised_is : (k n : ℕ) → raised k n ≡ k + n
unfolding raised
raised_is zero n = omega arith
raised_is (suc k) n = let h = raised_is k n in omega arith

many_more : (k n : ℕ) (cs : List ℕ) → after_raw_text n cs ≡ None → after_raw_text (raised k n) cs ≡ None
unfolding raised
many_more zero n cs e = e
many_more (suc k) n cs e = one_more (raised k n) cs (many_more k n cs e)

with_more : (n m : ℕ) (cs : List ℕ) → n ≤ m → after_raw_text n cs ≡ None → after_raw_text m cs ≡ None
with_more n m cs l e = let same : raised (m - n) n ≡ m = omega (arith, raised_is (m - n) n) in subst (λ v. after_raw_text v cs ≡ None) same (many_more (m - n) n cs e)

further_case : (b : Bool) (a t : Option (List ℕ)) → cond b (first_of a t) t ≡ None → t ≡ None
further_case true a t e = (both_none a t e).1
further_case false a t e = e

further : (n c : ℕ) (cs : List ℕ) → after_raw_text n (c ∷ cs) ≡ None → after_raw_text n cs ≡ None
further n c cs e = further_case (c == 34) (after_hashes n cs) (after_raw_text n cs) e

-- ---- what a raw string opens
abbrev Opened : ℕ → List ℕ → Option (ℕ × List ℕ)
Opened h body = Some (h, body)

same_opening : (h n : ℕ) (body cs : List ℕ) → Opened n cs ≡ Opened h body → (n ≡ h) × (cs ≡ body)
same_opening h n body cs e = let pairs : ◌≡◌ {A = ℕ × List ℕ} (n, cs) (h, body) = cc in (ap (λ p. p.0) pairs, ap (λ p. p.1) pairs)

form_case : (n c : ℕ) (cs : List ℕ) (h : ℕ) (body : List ℕ) (q s : Bool) → (hashes_at (n + 1) cs ≡ Opened h body → after_raw_string (n + 1) cs ≡ after_raw_text h body)
    → cond q (Opened n cs) (cond s (hashes_at (n + 1) cs) None) ≡ Opened h body → cond q (after_raw_text n cs) (cond s (after_raw_string (n + 1) cs) None) ≡ after_raw_text h body
form_case n c cs h body true s f e = let same = same_opening h n body cs e in ap (λ v. after_raw_text v cs) same.0 ∙ ap (after_raw_text h) same.1
form_case n c cs h body false true f e = f e
form_case n c cs h body false false f e = cc

hashes_form : (n : ℕ) (cs : List ℕ) (h : ℕ) (body : List ℕ) → hashes_at n cs ≡ Opened h body → after_raw_string n cs ≡ after_raw_text h body
hashes_form n [] h body e = cc
hashes_form n (c ∷ cs) h body e = form_case n c cs h body (c == 34) ((c == 35) && nat_lt n 255) (hashes_form (n + 1) cs h body) e

further_hashes : (n c : ℕ) (cs : List ℕ) (h : ℕ) (body : List ℕ) (m : ℕ) (q s : Bool) → (hashes_at (n + 1) cs ≡ Opened h body → after_raw_text m cs ≡ None → after_raw_text m body ≡ None)
    → cond q (Opened n cs) (cond s (hashes_at (n + 1) cs) None) ≡ Opened h body → after_raw_text m cs ≡ None → after_raw_text m body ≡ None
further_hashes n c cs h body m true s f e k = subst (λ v. after_raw_text m v ≡ None) (same_opening h n body cs e).1 k
further_hashes n c cs h body m false true f e k = f e k
further_hashes n c cs h body m false false f e k = cc

hashes_further : (n : ℕ) (cs : List ℕ) (h : ℕ) (body : List ℕ) (m : ℕ) → hashes_at n cs ≡ Opened h body → after_raw_text m cs ≡ None → after_raw_text m body ≡ None
hashes_further n [] h body m e f = cc
hashes_further n (c ∷ cs) h body m e f = further_hashes n c cs h body m (c == 34) ((c == 35) && nat_lt n 255) (hashes_further (n + 1) cs h body m) e (further m c cs f)

-- the ways in which a raw string opens
data Opens : List ℕ → ℕ → List ℕ → Type 0 where
  raw : {cs : List ℕ} {h : ℕ} {body : List ℕ} → hashes_at 0 cs ≡ Opened h body → Opens (114 ∷ cs) h body
  raw_byte : {cs : List ℕ} {h : ℕ} {body : List ℕ} → hashes_at 0 cs ≡ Opened h body → Opens (98 ∷ 114 ∷ cs) h body
  raw_c : {cs : List ℕ} {h : ℕ} {body : List ℕ} → hashes_at 0 cs ≡ Opened h body → Opens (99 ∷ 114 ∷ cs) h body

letter : (c h : ℕ) (cs body : List ℕ) → ((c ≡ 98) ⊎ (c ≡ 99)) → after_letter cs ≡ Opened h body → Opens (c ∷ cs) h body
letter c h [] body k e = cc
letter c h (d ∷ ds) body k e =
    elim (either (d == 114) e) [
      | inr f ↦ cc
      | inl f ↦
          let second : d ≡ 114 = eqb-true d 114 f.0 in
          elim k [
            | inl g ↦ subst (λ v. Opens (v ∷ d ∷ ds) h body) (sym g) (subst (λ v. Opens (98 ∷ v ∷ ds) h body) (sym second) (raw_byte f.1))
            | inr g ↦ subst (λ v. Opens (v ∷ d ∷ ds) h body) (sym g) (subst (λ v. Opens (99 ∷ v ∷ ds) h body) (sym second) (raw_c f.1))
          ]
    ]

opens : (text : List ℕ) (h : ℕ) (body : List ℕ) → opening_at text ≡ Opened h body → Opens text h body
opens [] h body e = cc
opens (c ∷ cs) h body e =
    elim (either (c == 114) e) [
      | inl f ↦ subst (λ v. Opens (v ∷ cs) h body) (sym (eqb-true c 114 f.0)) (raw f.1)
      | inr f ↦
          elim (either ((c == 98) || (c == 99)) f.1) [
            | inr g ↦ cc
            | inl g ↦
                elim (or_cases (c == 98) (c == 99) g.0) [
                  | inl k ↦ letter c h cs body (inl (eqb-true c 98 k)) g.1
                  | inr k ↦ letter c h cs body (inr (eqb-true c 99 k)) g.1
                ]
          ]
    ]

opens_form : {text : List ℕ} {h : ℕ} {body : List ℕ} → Opens text h body → form_at text ≡ after_raw_text h body
opens_form (raw {cs = cs} {h = h} {body = body} e) = hashes_form 0 cs h body e
opens_form (raw_byte {cs = cs} {h = h} {body = body} e) = hashes_form 0 cs h body e
opens_form (raw_c {cs = cs} {h = h} {body = body} e) = hashes_form 0 cs h body e

opens_further : {text : List ℕ} {h : ℕ} {body : List ℕ} (m : ℕ) → Opens text h body → after_raw_text m text ≡ None → after_raw_text m body ≡ None
opens_further m (raw {cs = cs} {h = h} {body = body} e) f = hashes_further 0 cs h body m e (further m 114 cs f)
opens_further m (raw_byte {cs = cs} {h = h} {body = body} e) f = hashes_further 0 cs h body m e (further m 114 cs (further m 98 (114 ∷ cs) f))
opens_further m (raw_c {cs = cs} {h = h} {body = body} e) f = hashes_further 0 cs h body m e (further m 114 cs (further m 99 (114 ∷ cs) f))

no_form : (found : Option (List ℕ)) → past_suffix found ≡ None → found ≡ None
no_form None e = refl
no_form (Some cs) e = cc

-- what a raw string opens and nothing closes is no literal, and the other way round
not_closed : (text : List ℕ) (h : ℕ) (body : List ℕ) → opening_at text ≡ Opened h body → after_raw_text h body ≡ None → literal_at text ≡ None
not_closed text h body e f = ap past_suffix (opens_form (opens text h body e) ∙ f)

never_closed : (text : List ℕ) (h : ℕ) (body : List ℕ) → opening_at text ≡ Opened h body → literal_at text ≡ None → after_raw_text h body ≡ None
never_closed text h body e f = sym (opens_form (opens text h body e)) ∙ no_form (form_at text) f

-- ---- what is known of a text
none_further : (h : ℕ) (cs : List ℕ) → after_raw_text h cs ≡ None → NoneCloses h cs
none_further h [] e = tt
none_further h (c ∷ cs) e =
    (λ more body f l. not_closed (c ∷ cs) more body f (with_more h more body l (opens_further h (opens (c ∷ cs) more body f) e)), none_further h cs (further h c cs e))

none_in_hashes : (n : ℕ) (cs : List ℕ) (h : ℕ) (body : List ℕ) → hashes_at n cs ≡ Opened h body → after_raw_text h body ≡ None → NoneCloses h cs
none_in_hashes n [] h body e f = tt
none_in_hashes n (c ∷ cs) h body e f =
    elim (either (c == 34) e) [
      | inl k ↦
          let same = same_opening h n body cs k.1 in
          let first : c ≡ 34 = eqb-true c 34 k.0 in
          (λ more text g l. let no : opening_at (34 ∷ cs) ≡ Opened more text = subst (λ v. opening_at (v ∷ cs) ≡ Opened more text) first g in cc, subst (NoneCloses h) (sym same.1) (none_further h body f))
      | inr k ↦
          elim (either ((c == 35) && nat_lt n 255) k.1) [
            | inr g ↦ cc
            | inl g ↦
                let first : c ≡ 35 = eqb-true c 35 (and_parts (c == 35) (nat_lt n 255) g.0).0 in
                (λ more text m l. let no : opening_at (35 ∷ cs) ≡ Opened more text = subst (λ v. opening_at (v ∷ cs) ≡ Opened more text) first m in cc, none_in_hashes (n + 1) cs h body g.1 f)
          ]
    ]

none_here : {text : List ℕ} {h : ℕ} {body : List ℕ} → Opens text h body → literal_at text ≡ None → after_raw_text h body ≡ None → NoneCloses h text
none_here (raw {cs = cs} {h = h} {body = body} e) l f = (λ more other g k. l, none_in_hashes 0 cs h body e f)
none_here (raw_byte {cs = cs} {h = h} {body = body} e) l f = (λ more other g k. l, (λ more other g k. not_closed (114 ∷ cs) h body e f, none_in_hashes 0 cs h body e f))
none_here (raw_c {cs = cs} {h = h} {body = body} e) l f = (λ more other g k. l, (λ more other g k. not_closed (114 ∷ cs) h body e f, none_in_hashes 0 cs h body e f))

pub none_after : (text : List ℕ) (h : ℕ) (body : List ℕ) → literal_at text ≡ None → opening_at text ≡ Some (h, body) → NoneCloses h text
none_after text h body l e = none_here (opens text h body e) l (never_closed text h body e l)

pub none_left : (n : ℕ) (front rest : List ℕ) → NoneCloses n (front ++ rest) → NoneCloses n rest
none_left n [] rest k = k
none_left n (c ∷ cs) rest k = none_left n cs rest k.1

-- ---- at the start nothing is known
below : (n : ℕ) → nat_lt n 255 ≡ true → n + 1 ≤ 255
below n h = grind (arith, nat_tests)

hashes_few : (n : ℕ) (cs : List ℕ) (h : ℕ) (body : List ℕ) → n ≤ 255 → hashes_at n cs ≡ Opened h body → h ≤ 255
hashes_few n [] h body l e = cc
hashes_few n (c ∷ cs) h body l e =
    elim (either (c == 34) e) [
      | inl k ↦ let same = (same_opening h n body cs k.1).0 in omega (arith, same)
      | inr k ↦
          elim (either ((c == 35) && nat_lt n 255) k.1) [
            | inr g ↦ cc
            | inl g ↦ hashes_few (n + 1) cs h body (below n (and_parts (c == 35) (nat_lt n 255) g.0).1) g.1
          ]
    ]

opens_few : {text : List ℕ} {h : ℕ} {body : List ℕ} → Opens text h body → h ≤ 255
opens_few (raw {cs = cs} {h = h} {body = body} e) = hashes_few 0 cs h body (omega arith) e
opens_few (raw_byte {cs = cs} {h = h} {body = body} e) = hashes_few 0 cs h body (omega arith) e
opens_few (raw_c {cs = cs} {h = h} {body = body} e) = hashes_few 0 cs h body (omega arith) e

pub none_known : (text : List ℕ) → NoneCloses 256 text
none_known [] = tt
none_known (c ∷ cs) = (λ more body e l. let few = opens_few (opens (c ∷ cs) more body e) in absurd (omega arith), none_known cs)
