-- Pieces nested by their brackets (The Rust Reference, "Delimiters").
use Rattle.std.specs.Prelude.{◌≡◌, ◌≤◌, ℕ, zero, suc, ◌⊎◌, List, ◌∷◌}
use Rattle.std.specs.List.{slice_range}
use Rattle.texts.specs.declared.span.Span.{Span}
use Rattle.tokens.specs.declared.token.Bracket.{Bracket}
use Rattle.tokens.specs.declared.token.Token as tokens
use Rattle.tokens.specs.declared.token.TokenKind.{TokenKind}
use Rattle.lexing.specs.declared.piece.Piece.{Piece}
use Rattle.lexing.specs.declared.piece.PieceKind.TheVariants.{Space, Comment, Token, Open, Close}
use Rattle.tokens.specs.Trees.{Trees, token, group, end, ◌▸◌, depth}

-- trees after trees
abbrev pub joined : Trees → Trees → Trees
joined end us = us
joined (t ▸ ts) us = t ▸ joined ts us

-- the token of a source with that span
abbrev pub token_of : List ℕ → TokenKind → Span → tokens.Token
token_of source kind span = record { kind = kind; text = slice_range source span.start span.end; span = span }

-- The pieces of the source before begin with these trees, and rest is what follows them.
pub data IsTrees (source : List ℕ) : List Piece → Trees → List Piece → Type 0 where
  none : {rest : List Piece} → IsTrees source rest end rest
  blank : {p : Piece} {ps rest : List Piece} {ts : Trees} → (p.kind ≡ Space) ⊎ (p.kind ≡ Comment) → IsTrees source ps ts rest → IsTrees source (p ∷ ps) ts rest
  lone : {p : Piece} {k : TokenKind} {ps rest : List Piece} {ts : Trees} → p.kind ≡ Token k → IsTrees source ps ts rest
      → IsTrees source (p ∷ ps) (token (token_of source k p.span) ▸ ts) rest
  grouped : {p q : Piece} {b : Bracket} {span : Span} {ps mid rest : List Piece} {inner ts : Trees}
      → p.kind ≡ Open b → IsTrees source ps inner (q ∷ mid) → q.kind ≡ Close b → span.start ≡ p.span.start → span.end ≡ q.span.end → IsTrees source mid ts rest
      → IsTrees source (p ∷ ps) (group b inner span ▸ ts) rest

-- Read from the left, the bracket of the span is the first to open inside n open ones.
pub data Opens (source : List ℕ) : ℕ → List Piece → Span → Type 0 where
  here : {p : Piece} {b : Bracket} {ps : List Piece} → p.kind ≡ Open b → Opens source zero (p ∷ ps) p.span
  inside : {n : ℕ} {p : Piece} {b : Bracket} {ps : List Piece} {span : Span} → p.kind ≡ Open b → Opens source n ps span → Opens source (suc n) (p ∷ ps) span
  later : {n : ℕ} {ps rest : List Piece} {ts : Trees} {span : Span} → IsTrees source ps ts rest → depth ts ≤ n → Opens source n rest span → Opens source n ps span
