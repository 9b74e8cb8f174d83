-- A source that is cut in vain has no token trees, or opens too many brackets.
use Rattle.std.proofs.Common.{ℕ, List, [], subst, ◌⊎◌, inl, inr}
use Rattle.std.specs.Str.{chars}
use Rattle.diag.specs.Refusal.{IsErrorFor}
use Rattle.diag.specs.declared.error.DeriveError.{DeriveError}
use Rattle.tokens.specs.Trees.{Trees}
use Rattle.lexing.specs.declared.piece.LexError.{LexError}
use Rattle.lexing.specs.declared.piece.LexError.TheVariants.{Memory, TooDeep, Stopped}
use Rattle.lexing.specs.declared.piece.Piece.{Piece}
use Rattle.lexing.specs.Pieces.{Cuts}
use Rattle.lexing.specs.Nesting.{IsTrees}
use Rattle.lexing.specs.Reading.{IsUnnested}
use Rattle.lexing.specs.Cut.{most_open, IsCut, IsUnread, IsToldOf, IsDepthError, IsSyntaxError}
use Rattle.lexing.proofs.CutLaws.{same_pieces}

-- a source's trees are those of the pieces that cut it
pub trees_of_pieces : (source : List ℕ) (pieces : List Piece) (trees : Trees) → Cuts pieces 0 (chars source) → IsCut source trees → IsTrees source pieces trees []
trees_of_pieces source pieces trees c cut = subst (λ v. IsTrees source v trees []) (same_pieces cut.0 pieces 0 (chars source) cut.1 c) cut.2

pub unread_from_unnested : (source : List ℕ) (pieces : List Piece) (e : LexError) → Cuts pieces 0 (chars source) → IsUnnested source most_open pieces e → IsUnread source e
unread_from_unnested source pieces Memory c h = tt
unread_from_unnested source pieces (TooDeep span) c h = (pieces, c, h)
unread_from_unnested source pieces (Stopped span) c h = (h.0, λ trees cut. h.1 trees [] (trees_of_pieces source pieces trees c cut) tt)

pub told_unread : (source : List ℕ) (e : LexError) (told : DeriveError) → IsUnread source e → IsToldOf e told → IsErrorFor (λ d. IsDepthError source d ⊎ IsSyntaxError source d) told
told_unread source Memory told u h = inl h
told_unread source (TooDeep span) told u (inl memory) = inl memory
told_unread source (TooDeep span) told u (inr refuses) = inr (inl (span, refuses, u))
told_unread source (Stopped span) told u (inl memory) = inl memory
told_unread source (Stopped span) told u (inr refuses) = inr (inr (span, refuses, u))
