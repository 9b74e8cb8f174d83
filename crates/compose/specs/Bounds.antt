-- Bounds on instances: how many are reachable, how large they are, that their names differ, how deep their schemas are inlined, and how many copies that makes.
use Rattle.std.specs.Prelude.{◌≡◌, ◌≢◌, ◌<◌, ◌≤◌, ◌++◌, ◌⊎◌, ℕ, zero, suc, List, [], ◌∷◌, length, map, codes, Bool, true, false, Option, Some, None}
use Rattle.std.specs.Cmp.Lexicographic.{slice_cmp}
use Rattle.std.specs.Ordering.{nat_cmp}
use Rattle.std.specs.declared.cmp.Ordering.TheVariants.{Greater}
use Rattle.std.specs.Fmt.{decimal}
use Rattle.diag.specs.Diagnostics.{diagnostic}
use Rattle.diag.specs.Refusal.{IsRefusal}
use Rattle.texts.specs.Span.{no_span}
use Rattle.diag.specs.declared.error.DeriveError.{DeriveError}
use Rattle.diag.specs.declared.error.DeriveError.TheVariants.{Refused, Memory}
use Rattle.diag.specs.declared.kind.Kind.{Kind}
use Rattle.diag.specs.declared.kind.Kind.TheVariants.{TooManyInstances, TypeSize, NameClash, InlineDepth, TooManyCopies}
use Rattle.texts.specs.declared.span.Span.{Span}
use Rattle.written_types.specs.declared.written.Ident.{Ident}
use Rattle.configuration.specs.Configuration.{Configuration}
use Rattle.configuration.specs.declared.collect.SchemaCollect.{SchemaCollect}
use Rattle.configuration.specs.declared.collect.SchemaCollect.TheVariants.{NonInlined, All}
use Rattle.resolving.specs.Resolved.{most_names}
use Rattle.scopes.specs.Texts.{name_at, type_text}
use Rattle.open_types.specs.Open.{Open}
use Rattle.open_types.specs.Instances.{declared_place, type_size}
use Rattle.shapes.specs.Declarations.{DeclarationOf}
use Rattle.shapes.specs.InstanceNames.{instance_name}
use Rattle.shapes.specs.InstanceShape.{IsReachable}
use Rattle.instances.specs.Lists.{instance_at}
use Rattle.instances.specs.Names.{NamesDiffer}
use Rattle.instances.specs.Walk.{AreReached, AreCrowded}
use Rattle.closing.specs.Copies.{sum_over, instance_copies}
use Rattle.closing.specs.Closed.{most_inlined}
use Rattle.closing.specs.Links.{AreComponentsOf}
use Rattle.closing.specs.Described.{IsInlinePath, AreShallow}

-- each reachable instance is a component, or only what is not inline alone
abbrev pub collects_all : SchemaCollect → Bool
collects_all NonInlined = false
collects_all All = true

-- Nothing is beyond its bound: the instances and their sizes, their names, the instances of an inline path, and the copies of schemas in all components.
pub record AreBounded (c : Configuration) (ss : List DeclarationOf) : Type 0 where
  pub instances : List Open
  pub reached : AreReached ss c.limit most_names instances
  pub differ : NamesDiffer ss
  pub shallow : AreShallow ss
  pub components : List Open
  pub shown : AreComponentsOf ss (collects_all c.collect) components
  pub copied : sum_over (instance_copies ss most_inlined) components ≤ c.copies

-- ---- where an instance is told, and how it reads

-- the identifier at a place, where there is one
abbrev pub ident_at : List Ident → ℕ → Option Ident
ident_at [] d = None
ident_at (x ∷ xs) zero = Some x
ident_at (x ∷ xs) (suc d) = ident_at xs d

-- the span is that of the name of the instance's declaration
abbrev pub IsAt : List Ident → Open → Span → Type 0
IsAt ds t span = (x : Ident) × (ident_at ds (declared_place t) ≡ Some x) × (span ≡ x.span)

-- the declaration of each instance is one of the first so many
abbrev pub ArePlaced : ℕ → List Open → Type 0
ArePlaced many is = (n : ℕ) → n < length is → declared_place (instance_at is n) < many

abbrev pub instance_text : List Ident → Open → List ℕ
instance_text ds t = type_text (name_at ds) t

-- ---- what is beyond

-- the error is a refusal by one diagnostic with these instances
abbrev pub IsRefusalOf : Kind → Span → List ℕ → List (List ℕ) → DeriveError → Type 0
IsRefusalOf kind span message instances (Refused d) = d ≡ record (diagnostic kind span message) { instances = instances } ∷ []
IsRefusalOf kind span message instances Memory = ⊥

abbrev pub crowded_message : ℕ → List ℕ
crowded_message limit = codes "more than " ++ (decimal limit ++ codes " instances are reachable")

abbrev pub large_message : List ℕ
large_message = codes "a type has more than 256 names"

abbrev pub clash_message : List ℕ → List ℕ
clash_message name = codes "two types have the component name " ++ name

abbrev pub deep_message : List ℕ
deep_message = codes "types are inlined deeper than 32"

abbrev pub copied_message : ℕ → List ℕ
copied_message copies = codes "more than " ++ (decimal copies ++ codes " copies are inlined")

-- more instances are reachable than may be; the span is the name of any
abbrev pub IsCrowded : Configuration → List Ident → List DeclarationOf → DeriveError → Type 0
IsCrowded c ds ss e = AreCrowded ss c.limit × ((t : Open) × IsReachable ss t × ((span : Span) × IsAt ds t span × IsRefusal TooManyInstances span (crowded_message c.limit) e))

-- a reachable instance has more names than may be; the span is its name
abbrev pub IsLarge : List Ident → List DeclarationOf → DeriveError → Type 0
IsLarge ds ss e = (t : Open) × IsReachable ss t × (most_names < type_size t) × ((span : Span) × IsAt ds t span × IsRefusal TypeSize span large_message e)

-- the error refuses two instances of one name; the span is that of the first
abbrev pub IsClashOf : List Ident → List DeclarationOf → Open → Open → DeriveError → Type 0
IsClashOf ds ss t u e = (span : Span) × IsAt ds t span × IsRefusalOf NameClash span (clash_message (instance_name ss t)) (instance_text ds t ∷ instance_text ds u ∷ []) e

-- two reachable instances have one name; they are told in byte order of their texts
abbrev pub IsClash : List Ident → List DeclarationOf → DeriveError → Type 0
IsClash ds ss e =
    (t : Open) × (u : Open) × IsReachable ss t × IsReachable ss u × (t ≢ u) × (instance_name ss t ≡ instance_name ss u) × (slice_cmp nat_cmp (instance_text ds t) (instance_text ds u) ≢ Greater) × IsClashOf ds ss t u e

-- an inline path of reachable instances has one more than may be; they are told, and the span is that of the first
abbrev pub IsDeep : List Ident → List DeclarationOf → DeriveError → Type 0
IsDeep ds ss e =
    (t : Open) × (path : List Open) × IsReachable ss t × IsInlinePath ss (t ∷ path) × (length path ≡ most_inlined)
    × ((span : Span) × IsAt ds t span × IsRefusalOf InlineDepth span deep_message (map (instance_text ds) (t ∷ path)) e)

-- more copies of schemas stand in the components than may be
abbrev pub IsCopied : Configuration → List DeclarationOf → DeriveError → Type 0
IsCopied c ss e = (ts : List Open) × AreComponentsOf ss (collects_all c.collect) ts × (c.copies < sum_over (instance_copies ss most_inlined) ts) × IsRefusal TooManyCopies no_span (copied_message c.copies) e

-- The error refuses what is beyond a bound: the instances or their sizes, or else their names, or else an inline path, or else the copies.
abbrev pub IsUnbounded : Configuration → List Ident → List DeclarationOf → DeriveError → Type 0
IsUnbounded c ds ss e =
    IsCrowded c ds ss e ⊎ IsLarge ds ss e
    ⊎ ((is : List Open) × AreReached ss c.limit most_names is × (IsClash ds ss e ⊎ (NamesDiffer ss × (IsDeep ds ss e ⊎ (AreShallow ss × IsCopied c ss e)))))

-- The law: what is bounded is not refused.
abbrev pub BoundedAreNotRefused : Type 0
BoundedAreNotRefused = (c : Configuration) (ds : List Ident) (ss : List DeclarationOf) (e : DeriveError) → AreBounded c ss → ¬ IsUnbounded c ds ss e
