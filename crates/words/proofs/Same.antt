-- A sign is the same as itself, and no identifier is one.
use Rattle.std.proofs.Common.{◌≡◌, Bool, true, false, cond, Option, Some, None, refl}
use Rattle.written_types.specs.declared.written.Ident.{Ident}
use Rattle.words.specs.declared.vocabulary.Keyword.{Keyword}
use Rattle.words.specs.declared.vocabulary.Sign.{Sign}
use Rattle.words.specs.declared.vocabulary.Sign.TheVariants as signs
use Rattle.words.specs.Words.{name, underscore, keyword_or_name, identifier_word}
use Rattle.words.specs.Reading.{same_sign, as_sign}

pub sign_is_itself : (k : Sign) → same_sign k k ≡ true
sign_is_itself signs.Colons = refl
sign_is_itself signs.Exclamation = refl
sign_is_itself signs.Hash = refl
sign_is_itself signs.Dollar = refl
sign_is_itself signs.Percent = refl
sign_is_itself signs.Ampersand = refl
sign_is_itself signs.Star = refl
sign_is_itself signs.Plus = refl
sign_is_itself signs.Comma = refl
sign_is_itself signs.Minus = refl
sign_is_itself signs.Dot = refl
sign_is_itself signs.Slash = refl
sign_is_itself signs.Colon = refl
sign_is_itself signs.Semicolon = refl
sign_is_itself signs.Less = refl
sign_is_itself signs.Equals = refl
sign_is_itself signs.Greater = refl
sign_is_itself signs.Question = refl
sign_is_itself signs.At = refl
sign_is_itself signs.Caret = refl
sign_is_itself signs.Bar = refl
sign_is_itself signs.Tilde = refl
sign_is_itself signs.Other = refl

no_sign : (k : Sign) (x : Ident) (a b : Bool) (o : Option Keyword) → as_sign k (cond a (underscore x) (cond b (name x) (keyword_or_name o x))) ≡ None
no_sign k x true b o = refl
no_sign k x false true o = refl
no_sign k x false false None = refl
no_sign k x false false (Some j) = refl

pub identifier_is_no_sign : (k : Sign) (x : Ident) → as_sign k (identifier_word x) ≡ None
identifier_is_no_sign k x = no_sign k x _ _ _
