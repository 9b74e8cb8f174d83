-- What the members of an object say of aliases.
use Rattle.std.proofs.Common.{◌≡◌, ◌+◌, inl, inr, ℕ, List, [], ◌∷◌, ◌++◌, Option, Some, None, Result, Ok, Err, IfOk, IfSome, IsSomeAnd, length, refl, sym, ap, ◌∙◌, subst, append_assoc, append-nil}
use Rattle.std.proofs.lemmas.List.{length_push}
use Rattle.serde_json.specs.Data.{Data, null, boolean, number, string, array, object, Members, no_members, member}
use Rattle.serde_json.specs.Find.{as_str}
use Rattle.diag.specs.Refusal.{Refuses}
use Rattle.diag.specs.declared.error.DeriveError.{DeriveError}
use Rattle.written_types.specs.declared.written.WrittenType.{WrittenType}
use Rattle.written_types.specs.Written.{Written, written_view}
use Rattle.configuration.specs.Configuration.{Alias}
use Rattle.configuration.specs.Aliases.{IsTypeText, IsBadRow}
use Rattle.configuration.specs.Stored.{aliases_of}
use Rattle.configuration_json.specs.Form.{SaysOrDefault, SaysType, AreMembers, AreAliases, AreTexts, HoldsTexts, LackType, LacksType}
use Rattle.configuration.proofs.Laws.{aliases-push}

-- ---- one value

pub is_text : (d : Data) (text : List ℕ) → as_str d ≡ Some text → d ≡ string text
is_text null text e = cc
is_text (boolean b) text e = cc
is_text (number n) text e = cc
is_text (string s) text e = cc
is_text (array ds) text e = cc
is_text (object ms) text e = cc

-- a value that is a text says the type that this is, and none where it is none
pub types_said : (d : Data) (text : List ℕ) (r : Result WrittenType DeriveError) → d ≡ string text → IfOk r (λ t. IsTypeText text (written_view t)) → IfOk r (λ t. SaysType d (written_view t))
types_said d text (Ok t) is says = subst (λ v. SaysType v (written_view t)) (sym is) says
types_said d text (Err e) is says = tt

pub types_unsaid : (d : Data) (text : List ℕ) (r : Result WrittenType DeriveError) → d ≡ string text → Refuses r (λ e. IsBadRow e × ((t : Written) → IsTypeText text t → ⊥)) → Refuses r (λ e. IsBadRow e × ((t : Written) → SaysType d t → ⊥))
types_unsaid d text (Ok t) is refused = tt
types_unsaid d text (Err e) is (inl memory) = inl memory
types_unsaid d text (Err e) is (inr (bad, none)) = inr (bad, λ t h. none t (subst (λ v. SaysType v t) is h))

-- ---- members that are read one by one

-- Some members are left of all. The others say the aliases of these names and types; where one that is left says no type, one of all does.
pub record AreRead (all left : Members) (names : List (List ℕ)) (types : List WrittenType) : Type 0 where
  pub many : length names ≡ length types
  pub said : (more : List Alias) → AreMembers left more → AreMembers all (aliases_of names types ++ more)
  pub lacks : LackType left → LackType all

pub one_read : (all left : Members) (ns : List (List ℕ)) (ts : List WrittenType) (name : List ℕ) (value : Data) (t : WrittenType) → AreRead all (member name value left) ns ts → SaysType value (written_view t) → AreRead all left (ns ++ name ∷ []) (ts ++ t ∷ [])
one_read all left ns ts name value t r says =
    let a : Alias = record { name = name; of = written_view t } in
    record {
      many = length_push ns name ∙ ap (λ n. n + 1) r.many ∙ sym (length_push ts t);
      said = λ more h. subst (AreMembers all) (sym (append_assoc (aliases_of ns ts) (a ∷ []) more) ∙ ap (λ xs. xs ++ more) (sym (aliases-push ns ts name t r.many))) (r.said (a ∷ more) (refl, says, h));
      lacks = λ h. r.lacks (inr h);
    }

pub all_read : (all : Members) (ns : List (List ℕ)) (ts : List WrittenType) → AreRead all no_members ns ts → AreMembers all (aliases_of ns ts)
all_read all ns ts r = subst (AreMembers all) (append-nil (aliases_of ns ts)) (r.said [] tt)

-- ---- what is said of all

said_text : (d : Data) (t : Written) (ms : Members) (name : List ℕ) → SaysType d t → AreTexts ms → AreTexts (member name d ms)
said_text null t ms name h rest = h
said_text (boolean b) t ms name h rest = h
said_text (number n) t ms name h rest = h
said_text (string s) t ms name h rest = rest
said_text (array ds) t ms name h rest = h
said_text (object ns) t ms name h rest = h

members_are_texts : (ms : Members) (xs : List Alias) → AreMembers ms xs → AreTexts ms
members_are_texts no_members [] h = tt
members_are_texts no_members (a ∷ xs) h = absurd h
members_are_texts (member name value ms) [] h = absurd h
members_are_texts (member name value ms) (a ∷ xs) h = said_text value a.of ms name h.1 (members_are_texts ms xs h.2)

aliases_are_texts : (d : Data) (xs : List Alias) → AreAliases d xs → HoldsTexts d
aliases_are_texts null xs h = h
aliases_are_texts (boolean b) xs h = h
aliases_are_texts (number n) xs h = h
aliases_are_texts (string s) xs h = h
aliases_are_texts (array ds) xs h = h
aliases_are_texts (object ms) xs h = members_are_texts ms xs h

-- aliases are texts
pub given_are_texts : (o : Option Data) (xs : List Alias) → SaysOrDefault AreAliases [] o xs → IfSome o HoldsTexts
given_are_texts None xs h = tt
given_are_texts (Some d) xs h = aliases_are_texts d xs h

members_lack_none : (ms : Members) (xs : List Alias) → AreMembers ms xs → LackType ms → ⊥
members_lack_none no_members xs h l = l
members_lack_none (member name value ms) [] h l = h
members_lack_none (member name value ms) (a ∷ xs) h (inl none) = none a.of h.1
members_lack_none (member name value ms) (a ∷ xs) h (inr l) = members_lack_none ms xs h.2 l

aliases_lack_none : (d : Data) (xs : List Alias) → AreAliases d xs → LacksType d → ⊥
aliases_lack_none null xs h l = l
aliases_lack_none (boolean b) xs h l = l
aliases_lack_none (number n) xs h l = l
aliases_lack_none (string s) xs h l = l
aliases_lack_none (array ds) xs h l = l
aliases_lack_none (object ms) xs h l = members_lack_none ms xs h l

-- where aliases are said, each is a type
pub given_lack_none : (o : Option Data) (xs : List Alias) → SaysOrDefault AreAliases [] o xs → IsSomeAnd o LacksType → ⊥
given_lack_none None xs h l = l
given_lack_none (Some d) xs h l = aliases_lack_none d xs h l
