-- What stands where a word was read.
use Rattle.std.proofs.Common.{◌≡◌, ◌∙◌, List, ◌∷◌, refl, ap, sym, true, Some, Ok}
use Rattle.texts.specs.declared.span.Span.{Span}
use Rattle.tokens.specs.declared.token.Bracket.{Bracket}
use Rattle.tokens.specs.declared.token.Bracket.TheVariants.{Round, Square, Curly}
use Rattle.tokens.specs.Trees.{Trees}
use Rattle.written_types.specs.declared.written.Ident.{Ident}
use Rattle.words.specs.declared.vocabulary.Keyword.{Keyword}
use Rattle.words.specs.declared.vocabulary.Keyword.TheVariants as keywords
use Rattle.words.specs.declared.vocabulary.Sign.{Sign}
use Rattle.words.specs.Words.{Word, name, underscore, keyword, sign, lifetime, literal, doc, group}
use Rattle.words.specs.Reading.{same_keyword, same_bracket, as_name, as_keyword, as_group, name_at, keyword_at, sign_at, group_at}
use Rattle.words.proofs.Read.{first_is}
use Rattle.words.proofs.Signs.{granted}
pub use Rattle.words.proofs.Signs.{as_sign-is}

same_keyword-is : (j k : Keyword) → same_keyword j k ≡ true → j ≡ k
same_keyword-is keywords.Pub keywords.Pub e = refl
same_keyword-is keywords.Struct keywords.Struct e = refl
same_keyword-is keywords.Enum keywords.Enum e = refl
same_keyword-is keywords.Use keywords.Use e = refl
same_keyword-is keywords.Mut keywords.Mut e = refl
same_keyword-is keywords.Dyn keywords.Dyn e = refl
same_keyword-is keywords.In keywords.In e = refl
same_keyword-is keywords.Crate keywords.Crate e = refl
same_keyword-is keywords.SelfValue keywords.SelfValue e = refl
same_keyword-is keywords.Super keywords.Super e = refl
same_keyword-is keywords.SelfType keywords.SelfType e = refl
same_keyword-is keywords.True keywords.True e = refl
same_keyword-is keywords.False keywords.False e = refl
same_keyword-is keywords.Const keywords.Const e = refl
same_keyword-is keywords.Where keywords.Where e = refl
same_keyword-is keywords.Other keywords.Other e = refl
same_keyword-is _ _ e = cc

pub same_bracket-is : (a b : Bracket) → same_bracket a b ≡ true → a ≡ b
same_bracket-is Round Round e = refl
same_bracket-is Square Square e = refl
same_bracket-is Curly Curly e = refl
same_bracket-is _ _ e = cc

as_name-is : (w : Word) (x : Ident) → as_name w ≡ Some x → w ≡ name x
as_name-is (name y) x e = cc
as_name-is (underscore y) x e = cc
as_name-is (keyword k y) x e = cc
as_name-is (sign k s) x e = cc
as_name-is (lifetime y) x e = cc
as_name-is (literal t) x e = cc
as_name-is (doc t) x e = cc
as_name-is (group b ts s) x e = cc

pub as_keyword-is : (k : Keyword) (w : Word) (s : Span) → as_keyword k w ≡ Some s → (x : Ident) × (w ≡ keyword k x)
as_keyword-is k (name y) s e = cc
as_keyword-is k (underscore y) s e = cc
as_keyword-is k (keyword j y) s e = (y, ap (λ v. keyword v y) (sym (same_keyword-is k j (granted (same_keyword k j) e).0)))
as_keyword-is k (sign j a) s e = cc
as_keyword-is k (lifetime y) s e = cc
as_keyword-is k (literal t) s e = cc
as_keyword-is k (doc t) s e = cc
as_keyword-is k (group b ts a) s e = cc

as_group-is : (b : Bracket) (w : Word) (g : Trees × Span) → as_group b w ≡ Some g → w ≡ group b g.0 g.1
as_group-is b (name y) g e = cc
as_group-is b (underscore y) g e = cc
as_group-is b (keyword j y) g e = cc
as_group-is b (sign j a) g e = cc
as_group-is b (lifetime y) g e = cc
as_group-is b (literal t) g e = cc
as_group-is b (doc t) g e = cc
as_group-is b (group a ts s) g e = let h = granted (same_bracket b a) e in ap (λ v. group v ts s) (sym (same_bracket-is b a h.0)) ∙ ap (λ (v : Trees × Span). group b v.0 v.1) h.1

pub name-is : (ws : List Word) (p : Ident × List Word) → name_at ws ≡ Ok p → ws ≡ name p.0 ∷ p.1
name-is ws p e = let h = first_is ws p e in h.1 ∙ ap (λ v. v ∷ p.1) (as_name-is h.0 p.0 h.2)

pub keyword-is : (k : Keyword) (ws : List Word) (p : Span × List Word) → keyword_at k ws ≡ Ok p → (x : Ident) × (ws ≡ keyword k x ∷ p.1)
keyword-is k ws p e = let h = first_is ws p e in let is = as_keyword-is k h.0 p.0 h.2 in (is.0, h.1 ∙ ap (λ v. v ∷ p.1) is.1)

pub sign-is : (k : Sign) (ws : List Word) (p : Span × List Word) → sign_at k ws ≡ Ok p → ws ≡ sign k p.0 ∷ p.1
sign-is k ws p e = let h = first_is ws p e in h.1 ∙ ap (λ v. v ∷ p.1) (as_sign-is k h.0 p.0 h.2)

pub group-is : (b : Bracket) (ws : List Word) (p : (Trees × Span) × List Word) → group_at b ws ≡ Ok p → ws ≡ group b p.0.0 p.0.1 ∷ p.1
group-is b ws p e = let h = first_is ws p e in h.1 ∙ ap (λ v. v ∷ p.1) (as_group-is b h.0 p.0 h.2)
