-- What is shown of characters, one behind the other.
use Rattle.std.proofs.Common.{◌≡◌, ◌∙◌, ◌++◌, ◌-◌, ℕ, List, [], ◌∷◌, length, take, drop, cond, false, nat_le, ap, ap₂, sym, append_assoc, encode_utf8_all}
use Rattle.std.proofs.lemmas.List.{flat_map_more}
use Rattle.std.proofs.lemmas.Str.{encodes-append}
use Rattle.std.specs.List.{flat_map}
use Rattle.telling.specs.Printable.{shown, escaped, is_of_name, shown_name, shown_behind}

pub one_more : (cs : List ℕ) (c : ℕ) → escaped cs ++ encode_utf8_all (shown c) ≡ escaped (cs ++ c ∷ [])
one_more cs c = sym (encodes-append (flat_map shown cs) (shown c)) ∙ ap encode_utf8_all (flat_map_more shown [] cs c)

-- three texts behind another
three : (old : List ℕ) (a b d : List ℕ) →
    ((old ++ encode_utf8_all a) ++ encode_utf8_all b) ++ encode_utf8_all d ≡ old ++ encode_utf8_all (a ++ (b ++ d))
three old a b d =
    append_assoc (old ++ encode_utf8_all a) (encode_utf8_all b) (encode_utf8_all d)
    ∙ append_assoc old (encode_utf8_all a) (encode_utf8_all b ++ encode_utf8_all d)
    ∙ ap (λ v. old ++ (encode_utf8_all a ++ v)) (sym (encodes-append b d))
    ∙ ap (λ v. old ++ v) (sym (encodes-append a (b ++ d)))

-- the two ends of a long name
pub ends_shown : (old name : List ℕ) → nat_le (length name) 200 ≡ false →
    ((old ++ encode_utf8_all (take 100 name)) ++ encode_utf8_all (0x2026 ∷ [])) ++ encode_utf8_all (drop (length name - 100) name) ≡ old ++ encode_utf8_all (shown_name name)
ends_shown old name long =
    three old (take 100 name) (0x2026 ∷ []) (drop (length name - 100) name)
    ∙ sym (ap (λ b. old ++ encode_utf8_all (cond b name (take 100 name ++ (0x2026 ∷ drop (length name - 100) name)))) long)

-- a character that ends a name
pub name_ended : (old mid new name none : List ℕ) (c : ℕ) → is_of_name c ≡ false → mid ≡ old ++ encode_utf8_all (shown_name name) → new ≡ mid ++ encode_utf8_all (shown c) → none ≡ [] →
    (rest : List ℕ) → new ++ encode_utf8_all (shown_behind none rest) ≡ old ++ encode_utf8_all (shown_behind name (c ∷ rest))
name_ended old mid new name none c ends is_mid is_new is_none rest =
    ap₂ (λ (n i : List ℕ). n ++ encode_utf8_all (shown_behind i rest)) (is_new ∙ ap (λ v. v ++ encode_utf8_all (shown c)) is_mid) is_none
    ∙ three old (shown_name name) (shown c) (shown_behind [] rest)
    ∙ sym (ap (λ b. old ++ encode_utf8_all (cond b (shown_behind (name ++ c ∷ []) rest) (shown_name name ++ (shown c ++ shown_behind [] rest)))) ends)
