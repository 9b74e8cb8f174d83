-- The word that is read as a sign is that sign.
use Rattle.std.proofs.Common.{◌≡◌, ◌∙◌, refl, ap, sym, Bool, true, false, cond, Some, None}
use Rattle.texts.specs.declared.span.Span.{Span}
use Rattle.words.specs.declared.vocabulary.Sign.{Sign}
use Rattle.words.specs.declared.vocabulary.Sign.TheVariants as signs
use Rattle.words.specs.Words.{Word, name, underscore, keyword, sign, lifetime, literal, doc, group}
use Rattle.words.specs.Reading.{same_sign, as_sign}

pub granted : {A : Type 0} {x y : A} → (b : Bool) → cond b (Some x) None ≡ Some y → (b ≡ true) × (x ≡ y)
granted true e = (refl, cc)
granted false e = cc

same_sign-is : (j k : Sign) → same_sign j k ≡ true → j ≡ k
same_sign-is signs.Colons signs.Colons e = refl
same_sign-is signs.Exclamation signs.Exclamation e = refl
same_sign-is signs.Hash signs.Hash e = refl
same_sign-is signs.Dollar signs.Dollar e = refl
same_sign-is signs.Percent signs.Percent e = refl
same_sign-is signs.Ampersand signs.Ampersand e = refl
same_sign-is signs.Star signs.Star e = refl
same_sign-is signs.Plus signs.Plus e = refl
same_sign-is signs.Comma signs.Comma e = refl
same_sign-is signs.Minus signs.Minus e = refl
same_sign-is signs.Dot signs.Dot e = refl
same_sign-is signs.Slash signs.Slash e = refl
same_sign-is signs.Colon signs.Colon e = refl
same_sign-is signs.Semicolon signs.Semicolon e = refl
same_sign-is signs.Less signs.Less e = refl
same_sign-is signs.Equals signs.Equals e = refl
same_sign-is signs.Greater signs.Greater e = refl
same_sign-is signs.Question signs.Question e = refl
same_sign-is signs.At signs.At e = refl
same_sign-is signs.Caret signs.Caret e = refl
same_sign-is signs.Bar signs.Bar e = refl
same_sign-is signs.Tilde signs.Tilde e = refl
same_sign-is signs.Other signs.Other e = refl
same_sign-is _ _ e = cc

pub as_sign-is : (k : Sign) (w : Word) (s : Span) → as_sign k w ≡ Some s → w ≡ sign k s
as_sign-is k (name y) s e = cc
as_sign-is k (underscore y) s e = cc
as_sign-is k (keyword j y) s e = cc
as_sign-is k (sign j a) s e = let h = granted (same_sign k j) e in ap (λ v. sign v a) (sym (same_sign-is k j h.0)) ∙ ap (λ v. sign k v) h.1
as_sign-is k (lifetime y) s e = cc
as_sign-is k (literal t) s e = cc
as_sign-is k (doc t) s e = cc
as_sign-is k (group b ts a) s e = cc
