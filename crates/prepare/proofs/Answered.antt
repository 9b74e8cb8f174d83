-- What is prepared of a source, and why it is refused.
use Rattle.std.proofs.Common.{◌≡◌, ℕ, ◌≤◌, ◌<◌, List, length, subst, arith, ◌⊎◌, inl, inr, Err}
use Rattle.std.specs.Str.{IsUtf8}
use Rattle.texts.specs.declared.span.Span.{Span}
use Rattle.diag.specs.declared.error.DeriveError.{DeriveError}
use Rattle.diag.specs.declared.error.DeriveError.TheVariants as errors
use Rattle.tokens.specs.Trees.{Trees, depth}
use Rattle.lexing.specs.Cut.{IsCut, OpensTooDeep, IsDepthError, IsSyntaxError}
use Rattle.prepare.specs.declared.item.Standing.{Standing}
use Rattle.prepare.specs.declared.item.Stop.{Stop}
use Rattle.prepare.specs.declared.item.Stop.TheVariants as stop
use Rattle.prepare.specs.Trees.{listed}
use Rattle.prepare.specs.Standing.{StandInside, StopInside, Finds}
use Rattle.prepare.specs.Prepared.{IsFile, IsNoFile, IsRefusalOf}

-- a source has at most one list of trees
abbrev pub OneCut : Type 0
OneCut = (source : List ℕ) (ts us : Trees) → IsCut source ts → IsCut source us → ts ≡ us

-- where a bracket opens too deep, trees nest deeper
abbrev pub DeepNest : Type 0
DeepNest = (source : List ℕ) (ts : Trees) (at : Span) → IsCut source ts → OpensTooDeep source at → 64 < depth ts

pub is_file : (source : List ℕ) (trees : Trees) (standing : List Standing) → IsCut source trees → StandInside (listed trees) standing → IsFile source standing
is_file source trees standing cut h = (trees, cut, h)

no_file : OneCut → (source : List ℕ) (trees : Trees) → IsCut source trees → ((standing : List Standing) → StandInside (listed trees) standing → ⊥) → (standing : List Standing) → IsFile source standing → ⊥
no_file unique source trees cut none standing f = none standing (subst (λ v. StandInside (listed v) standing) (unique source f.0 trees f.1 cut) f.2)

-- a stop among the trees lies in the source
abbrev pub StopsLie : Type 0
StopsLie = (source : List ℕ) (trees : Trees) (span : Span) → IsUtf8 source → IsCut source trees → StopInside (listed trees) span → span.end ≤ length source

pub unread : OneCut → StopsLie → (source : List ℕ) (trees : Trees) (s : Stop) (e : DeriveError) → IsUtf8 source → IsCut source trees → Finds (StandInside (listed trees)) (StopInside (listed trees)) (Err s)
    → IsRefusalOf s e → (e ≡ errors.Memory) ⊎ IsDepthError source e ⊎ IsNoFile source e
unread unique lie source trees stop.Memory e utf8 cut f h = inl h
unread unique lie source trees (stop.At at) e utf8 cut f (inl h) = inl h
unread unique lie source trees (stop.At at) e utf8 cut f (inr h) =
    inr (inr (at, h, lie source trees at utf8 cut f.1, no_file unique source trees cut f.0, inr (trees, cut, f.1)))

-- where the source has no trees, it is no file
pub passed_on : (source : List ℕ) (e : DeriveError) → (e ≡ errors.Memory) ⊎ IsDepthError source e ⊎ IsSyntaxError source e → (e ≡ errors.Memory) ⊎ IsDepthError source e ⊎ IsNoFile source e
passed_on source e (inl h) = inl h
passed_on source e (inr (inl h)) = inr (inl h)
passed_on source e (inr (inr h)) = inr (inr (h.0, h.1, h.2.0, (λ standing f. h.2.1 f.0 f.1), inl h.2))

pub cut_fails : (source : List ℕ) (e : DeriveError) → (e ≡ errors.Memory) ⊎ IsSyntaxError source e → (e ≡ errors.Memory) ⊎ IsDepthError source e ⊎ IsSyntaxError source e
cut_fails source e (inl h) = inl h
cut_fails source e (inr h) = inr (inr h)

pub shallow : DeepNest → (source : List ℕ) (ts : Trees) (at : Span) → IsCut source ts → depth ts ≤ 64 → OpensTooDeep source at → ⊥
shallow deeper source ts at cut low o = let h = deeper source ts at cut o in absurd (omega arith)
