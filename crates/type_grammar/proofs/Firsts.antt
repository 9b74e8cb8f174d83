-- What the readers of single words find.
use Rattle.std.proofs.Common.{◌≡◌, ◌<◌, List, [], ◌∷◌, length, refl, ap, sym, ◌∙◌, Option, Some, None, Ok, Err, arith}
use Rattle.texts.specs.declared.span.Span.{Span}
use Rattle.written_types.specs.declared.written.Ident.{Ident}
use Rattle.words.specs.declared.vocabulary.Sign.{Sign}
use Rattle.words.specs.declared.vocabulary.Sign.TheVariants as signs
use Rattle.words.specs.Words.{Word, name, underscore, keyword, sign, lifetime, literal, doc, group}
use Rattle.words.specs.Reading.{wrong, taken, first_as, as_sign, as_lifetime, sign_at, lifetime_at}
pub use Rattle.words.proofs.Laws.{as_sign-is}
use Rattle.type_grammar.specs.Reading.{kept, after_sign, unless, without, after_lifetimes}

-- the first word is of the kind, or it is not
taken-is : {A : Type 0} (o : Option A) (ws rest : List Word) (x : A) → taken o ws ≡ Ok (x, rest) → (o ≡ Some x) × (ws ≡ rest)
taken-is None ws rest x e = cc
taken-is {A = A} (Some y) ws rest x e =
    let pairs : ◌≡◌ {A = A × List Word} (y, ws) (x, rest) = cc in
    (ap (λ p. Some p.0) pairs, ap (λ p. p.1) pairs)

pub taken-not : {A : Type 0} (o : Option A) (ws : List Word) → taken o ws ≡ Err wrong → o ≡ None
taken-not None ws e = refl
taken-not (Some y) ws e = cc

pub first_as-is : {A : Type 0} (kind : Word → Option A) (ws rest : List Word) (x : A) → first_as kind ws ≡ Ok (x, rest) → (w : Word) × (ws ≡ w ∷ rest) × (kind w ≡ Some x)
first_as-is kind [] rest x e = cc
first_as-is kind (w ∷ ws) rest x e = let h = taken-is (kind w) ws rest x e in (w, ap (λ v. w ∷ v) h.1, h.0)

pub kind_found : {A : Type 0} (kind : Word → Option A) (ws rest : List Word) (x : A) → first_as kind ws ≡ Ok (x, rest) → without kind ws ≡ rest
kind_found kind [] rest x e = cc
kind_found kind (w ∷ ws) rest x e = let h = taken-is (kind w) ws rest x e in ap (λ o. unless o w ws) h.0 ∙ h.1

pub kind_missed : {A : Type 0} (kind : Word → Option A) (ws : List Word) → first_as kind ws ≡ Err wrong → without kind ws ≡ ws
kind_missed kind [] e = refl
kind_missed kind (w ∷ ws) e = ap (λ o. unless o w ws) (taken-not (kind w) ws e)

pub sign_found : (k : Sign) (ws rest : List Word) (s : Span) → sign_at k ws ≡ Ok (s, rest) → after_sign k ws ≡ Some rest
sign_found k [] rest s e = cc
sign_found k (w ∷ ws) rest s e = let h = taken-is (as_sign k w) ws rest s e in ap (λ o. kept o ws) h.0 ∙ ap (λ v. Some v) h.1

pub sign_missed : (k : Sign) (ws : List Word) → sign_at k ws ≡ Err wrong → after_sign k ws ≡ None
sign_missed k [] e = refl
sign_missed k (w ∷ ws) e = ap (λ o. kept o ws) (taken-not (as_sign k w) ws e)

pub as_lifetime-is : (w : Word) (x : Ident) → as_lifetime w ≡ Some x → w ≡ lifetime x
as_lifetime-is (name y) x e = cc
as_lifetime-is (underscore y) x e = cc
as_lifetime-is (keyword j y) x e = cc
as_lifetime-is (sign j at) x e = cc
as_lifetime-is (lifetime y) x e = let same : y ≡ x = cc in ap (λ v. lifetime v) same
as_lifetime-is (literal t) x e = cc
as_lifetime-is (doc t) x e = cc
as_lifetime-is (group b ts at) x e = cc

pub sign_at-is : (k : Sign) (ws rest : List Word) (s : Span) → sign_at k ws ≡ Ok (s, rest) → ws ≡ sign k s ∷ rest
sign_at-is k ws rest s e = let h = first_as-is (as_sign k) ws rest s e in h.1 ∙ ap (λ w. w ∷ rest) (as_sign-is k h.0 s h.2)

pub lifetime_at-is : (ws rest : List Word) (x : Ident) → lifetime_at ws ≡ Ok (x, rest) → ws ≡ lifetime x ∷ rest
lifetime_at-is ws rest x e = let h = first_as-is as_lifetime ws rest x e in h.1 ∙ ap (λ w. w ∷ rest) (as_lifetime-is h.0 x h.2)

-- the lifetimes before the first path of a trait object
pub lifetime_skipped : (ws us rest : List Word) (x : Ident) (s : Span) → lifetime_at ws ≡ Ok (x, us) → sign_at signs.Plus us ≡ Ok (s, rest) → after_lifetimes ws ≡ after_lifetimes rest
lifetime_skipped ws us rest x s e f = ap after_lifetimes (lifetime_at-is ws us x e ∙ ap (λ v. lifetime x ∷ v) (sign_at-is signs.Plus us rest s f))

pub no_lifetime_skipped : (ws : List Word) → lifetime_at ws ≡ Err wrong → after_lifetimes ws ≡ ws
no_lifetime_skipped [] e = refl
no_lifetime_skipped (name x ∷ ws) e = refl
no_lifetime_skipped (underscore x ∷ ws) e = refl
no_lifetime_skipped (keyword k x ∷ ws) e = refl
no_lifetime_skipped (sign k s ∷ ws) e = refl
no_lifetime_skipped (lifetime x ∷ ws) e = cc
no_lifetime_skipped (literal t ∷ ws) e = refl
no_lifetime_skipped (doc t ∷ ws) e = refl
no_lifetime_skipped (group b ts s ∷ ws) e = refl

alone : (x : Ident) (us : List Word) → sign_at signs.Plus us ≡ Err wrong → after_lifetimes (lifetime x ∷ us) ≡ lifetime x ∷ us
alone x [] e = refl
alone x (name y ∷ ws) e = refl
alone x (underscore y ∷ ws) e = refl
alone x (keyword k y ∷ ws) e = refl
alone x (sign signs.Plus s ∷ ws) e = cc
alone x (sign _ s ∷ ws) e = refl
alone x (lifetime y ∷ ws) e = refl
alone x (literal t ∷ ws) e = refl
alone x (doc t ∷ ws) e = refl
alone x (group b ts s ∷ ws) e = refl

pub no_plus_skipped : (ws us : List Word) (x : Ident) → lifetime_at ws ≡ Ok (x, us) → sign_at signs.Plus us ≡ Err wrong → after_lifetimes ws ≡ ws
no_plus_skipped ws us x e f = let begins = lifetime_at-is ws us x e in ap after_lifetimes begins ∙ alone x us f ∙ sym begins

kept-is : (k : Sign) (w : Word) (ws rest : List Word) (o : Option Span) → as_sign k w ≡ o → kept o ws ≡ Some rest → (s : Span) × ((w ∷ ws) ≡ sign k s ∷ rest)
kept-is k w ws rest None f e = cc
kept-is k w ws rest (Some s) f e = let same : ws ≡ rest = cc in (s, ap (λ v. v ∷ ws) (as_sign-is k w s f) ∙ ap (λ v. sign k s ∷ v) same)

pub after_sign-is : (k : Sign) (ws rest : List Word) → after_sign k ws ≡ Some rest → (s : Span) × (ws ≡ sign k s ∷ rest)
after_sign-is k [] rest e = cc
after_sign-is k (w ∷ ws) rest e = kept-is k w ws rest (as_sign k w) refl e

pub after_sign-shorter : (k : Sign) (ws rest : List Word) → after_sign k ws ≡ Some rest → length rest < length ws
after_sign-shorter k ws rest e = let h = after_sign-is k ws rest e in omega (arith, ap length h.1)
