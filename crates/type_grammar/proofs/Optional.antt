-- Optional words before the parts of a type.
use Rattle.std.proofs.Common.{List, [], ◌∷◌, Bool, true, false}
use Rattle.words.specs.declared.vocabulary.Keyword.TheVariants.{Mut}
use Rattle.words.specs.declared.vocabulary.Sign.TheVariants.{Plus, Question, Equals}
use Rattle.words.specs.Words.{Word, name, keyword, sign, lifetime}
use Rattle.words.specs.Reading.{as_sign, as_keyword, as_lifetime}
use Rattle.type_grammar.specs.declared.starts.Bounds.{Bounds}
use Rattle.type_grammar.specs.declared.starts.Bounds.TheVariants.{One, Any}
use Rattle.type_grammar.specs.Grammar.{MayBeLifetime, no_lifetime, a_lifetime, MayBeMut, no_mut, a_mut, MayBeQuestion, no_question, a_question, LifetimesFirst, no_more_lifetimes, a_lifetime_first, MayBeBinding, no_binding, a_binding}
use Rattle.type_grammar.specs.Reading.{without, after_lifetimes, first_bound, after_binding}

pub is_lifetime : (ws : List Word) → MayBeLifetime ws (without as_lifetime ws)
is_lifetime [] = no_lifetime
is_lifetime (lifetime x ∷ ws) = a_lifetime
is_lifetime (_ ∷ ws) = no_lifetime

pub is_mut : (ws : List Word) → MayBeMut ws (without (as_keyword Mut) ws)
is_mut [] = no_mut
is_mut (keyword Mut x ∷ ws) = a_mut
is_mut (keyword _ x ∷ ws) = no_mut
is_mut (_ ∷ ws) = no_mut

pub is_question : (ws : List Word) → MayBeQuestion ws (without (as_sign Question) ws)
is_question [] = no_question
is_question (sign Question s ∷ ws) = a_question
is_question (sign _ s ∷ ws) = no_question
is_question (_ ∷ ws) = no_question

pub are_lifetimes : (ws : List Word) → LifetimesFirst Any ws (after_lifetimes ws)
are_lifetimes (lifetime x ∷ sign Plus s ∷ ws) = a_lifetime_first (are_lifetimes ws)
are_lifetimes [] = no_more_lifetimes
are_lifetimes (lifetime x ∷ []) = no_more_lifetimes
are_lifetimes (lifetime x ∷ sign _ s ∷ ws) = no_more_lifetimes
are_lifetimes (lifetime x ∷ _ ∷ ws) = no_more_lifetimes
are_lifetimes (_ ∷ ws) = no_more_lifetimes

pub is_first : (b : Bounds) (ws : List Word) → (us : List Word) × LifetimesFirst b ws us × MayBeQuestion us (first_bound b ws)
is_first One ws = (ws, no_more_lifetimes, is_question ws)
is_first Any ws = (after_lifetimes ws, are_lifetimes ws, is_question (after_lifetimes ws))

pub is_binding : (b : Bool) (ws : List Word) → MayBeBinding b ws (after_binding b ws)
is_binding false ws = no_binding
is_binding true [] = no_binding
is_binding true (name x ∷ sign Equals s ∷ ws) = a_binding
is_binding true (name x ∷ []) = no_binding
is_binding true (name x ∷ sign _ s ∷ ws) = no_binding
is_binding true (name x ∷ _ ∷ ws) = no_binding
is_binding true (_ ∷ ws) = no_binding
