-- Where instances stand, and how they read.
use Rattle.std.proofs.Common.{ℕ, zero, suc, ◌<◌, List, [], ◌∷◌, length, map, get_or, Some, ◌≡◌, refl, sym, subst, ◌∙◌, inl, inr, arith}
use Rattle.std.proofs.lemmas.List.{length-map}
use Rattle.diag.specs.Diagnostics.{diagnostic}
use Rattle.diag.specs.declared.diagnostics.DiangosticsInner.{DiangosticsInner}
use Rattle.diag.specs.declared.error.DeriveError.{DeriveError}
use Rattle.diag.specs.declared.kind.Kind.{Kind}
use Rattle.diag.specs.declared.kind.Kind.TheVariants.{InlineDepth}
use Rattle.texts.specs.declared.span.Span.{Span}
use Rattle.written_types.specs.declared.written.Ident.{Ident}
use Rattle.open_types.specs.Open.{Open}
use Rattle.open_types.specs.Instances.{declared_place}
use Rattle.shapes.specs.Declarations.{DeclarationOf, AreFitting}
use Rattle.shapes.specs.InstanceShape.{IsReachable}
use Rattle.inlining.specs.Inlining.{IsAmong, IsPath}
use Rattle.instances.specs.Fitting.{IsFit, ReachableFit}
use Rattle.instances.specs.Lists.{instance_at, AreInstances}
use Rattle.instances.proofs.Laws.{at-one}
use Rattle.closing.specs.Closed.{most_inlined}
use Rattle.closing.specs.Described.{IsInlinePath}
use Rattle.compose.specs.Bounds.{ident_at, instance_text, ArePlaced, IsAt, IsRefusalOf, IsDeep, deep_message}

pub ident-found : (xs : List Ident) (i : ℕ) (x : Ident) → i < length xs → ident_at xs i ≡ Some (get_or xs i x)
ident-found [] i x l = absurd (omega (arith, l))
ident-found (y ∷ xs) zero x l = refl
ident-found (y ∷ xs) (suc i) x l = ident-found xs i x (omega (arith, l))

-- what is reachable is of a declaration that is there
pub reachable-placed : ReachableFit → (ss : List DeclarationOf) → AreFitting ss → (t : Open) → IsReachable ss t → declared_place t < length ss
reachable-placed fit ss fitting t r = let f : IsFit ss t = fit ss fitting t r in subst (λ u. declared_place u < length ss) (sym f.is) f.over.0

pub all-placed : ReachableFit → (ss : List DeclarationOf) → AreFitting ss → (is : List Open) → AreInstances ss is → ArePlaced (length ss) is
all-placed fit ss fitting is are n l = reachable-placed fit ss fitting (instance_at is n) (are.reached (instance_at is n) (at-one is n l))

-- ---- refusals with instances

abbrev pub with_instances : Kind → Span → List ℕ → List (List ℕ) → List DiangosticsInner
with_instances kind span message texts = record (diagnostic kind span message) { instances = texts } ∷ []

-- ---- inline paths

pub path-within : (g : List (List ℕ)) (path : List ℕ) (n : ℕ) → IsPath g path → IsAmong n path → n < length g
path-within g [] n p a = absurd a
path-within g (d ∷ []) n p (inl e) = subst (λ m. m < length g) (sym e) p
path-within g (d ∷ []) n p (inr a) = absurd a
path-within g (d ∷ e ∷ es) n p (inl q) = subst (λ m. m < length g) (sym q) p.0
path-within g (d ∷ e ∷ es) n p (inr a) = path-within g (e ∷ es) n p.2 a

-- a path of numbers that is too long is one of instances
pub deep-path : (ds : List Ident) (ss : List DeclarationOf) (is : List Open) → AreInstances ss is → (path : List ℕ) → ((n : ℕ) → IsAmong n path → n < length is) → IsInlinePath ss (map (instance_at is) path) → length path ≡ suc most_inlined → (e : DeriveError) →
    (span : Span) × IsAt ds (instance_at is (get_or path 0 0)) span × IsRefusalOf InlineDepth span deep_message (map (instance_text ds) (map (instance_at is) path)) e → IsDeep ds ss e
deep-path ds ss is are [] within p long e r = let none : 0 ≡ suc most_inlined = long in absurd (omega (arith, none))
deep-path ds ss is are (n ∷ path) within p long e r =
    let l : suc (length path) ≡ suc most_inlined = long in
    (instance_at is n, map (instance_at is) path, are.reached (instance_at is n) (at-one is n (within n (inl refl))), p, length-map path (instance_at is) ∙ omega (arith, l), r)
