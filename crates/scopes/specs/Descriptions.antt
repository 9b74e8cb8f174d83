-- What a schema is described as (The Rust Reference, "Doc comments").
use Rattle.std.specs.Prelude.{ℕ, List, [], ◌∷◌, Option, Some, None}
use Rattle.attributes.specs.Comments.{joined}
use Rattle.std.specs.Borrow.{Bor}
use Rattle.scopes.specs.declared.container.ComponentDescription.{ComponentDescription}
use Rattle.scopes.specs.declared.container.ComponentDescription.TheVariants as descriptions

-- a text that says something
abbrev pub said : List ℕ → Option (List ℕ)
said [] = None
said (b ∷ bs) = Some (b ∷ bs)

abbrev pub description_of : ComponentDescription → Option (List ℕ)
description_of (descriptions.CommentAttributes comments) = said (joined comments.now.0)

-- the description of a place that may have one
abbrev pub described_by : Option (Bor ComponentDescription) → Option (List ℕ)
described_by None = None
described_by (Some description) = description_of description.now
