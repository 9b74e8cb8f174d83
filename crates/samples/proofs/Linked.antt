-- The term of an instance of a ring has nothing inline, and refers to the instance that is next alone.
use Rattle.std.proofs.Common.{◌≡◌, ◌≤◌, ◌<◌, ◌+◌, inl, ℕ, zero, suc, List, [], ◌∷◌, map, refl, ap, subst, sym, ◌∙◌, arith}
use Rattle.std.specs.List.{range_with_len}
use Rattle.open_types.specs.Open.{Open, Opens, named, substituted}
use Rattle.shapes.specs.Declarations.{DeclarationOf, unannotated}
use Rattle.shapes.specs.InstanceShape.{IsReachable}
use Rattle.terms.specs.InstanceTerms.{instance_term, term_over}
use Rattle.instances.specs.Lists.{IsOneOf, AreInstances}
use Rattle.closing.specs.Closed.{most_inlined}
use Rattle.closing.specs.Copies.{sum_over, instance_copies}
use Rattle.closing.specs.Described.{AreShallow}
use Rattle.closing.specs.Links.{inline_in, referred_in, targets_at, references_at}
use Rattle.samples.specs.Rings.{Turn, plain_struct, generic_struct, tagged_enum, turn, arguments, instance, next, body, declaration, ring, instances}
use Rattle.samples.proofs.Numbered.{declared}
use Rattle.samples.proofs.RingPlaces.{stays}
use Rattle.samples.proofs.Reached.{of_number}

-- a declaration by its name, its parameters, whose turn it is and what its member `next` has for a type
abbrev one : List ℕ → ℕ → Turn → Open → DeclarationOf
one name parameters t u = record { name = name; parameters = parameters; annotations = unannotated; body = body t u }

none-inline : (name : List ℕ) (parameters : ℕ) (t : Turn) (j : ℕ) (ts : Opens) → inline_in (term_over (arguments t) (one name parameters t (named j ts))) ≡ []
none-inline name parameters plain_struct j ts = refl
none-inline name parameters generic_struct j ts = refl
none-inline name parameters tagged_enum j ts = refl

one-referred : (name : List ℕ) (parameters : ℕ) (t : Turn) (j : ℕ) (ts : Opens) →
    referred_in (term_over (arguments t) (one name parameters t (named j ts))) ≡ substituted (arguments t) (named j ts) ∷ []
one-referred name parameters plain_struct j ts = refl
one-referred name parameters generic_struct j ts = refl
one-referred name parameters tagged_enum j ts = refl

term-is : (many i : ℕ) → i < many → instance_term (ring many) (instance i) ≡ term_over (arguments (turn i)) (declaration many i)
term-is many i l = ap (term_over (arguments (turn i))) (declared many i l)

-- ---- in the ring

no_targets : (many i : ℕ) → i < many → targets_at (ring many) (instance i) ≡ []
no_targets many i l =
    let d = declaration many i in
    ap inline_in (term-is many i l) ∙ none-inline d.name d.parameters (turn i) (next many i) (arguments (turn (next many i)))

references : (many i : ℕ) → i < many → references_at (ring many) (instance i) ≡ instance (next many i) ∷ []
references many i l =
    let d = declaration many i in
    ap referred_in (term-is many i l)
    ∙ one-referred d.name d.parameters (turn i) (next many i) (arguments (turn (next many i)))
    ∙ ap (λ (t : Open). t ∷ []) (stays (arguments (turn i)) (next many i))

-- what is next is referred to
pub next_referred : (many i : ℕ) → i < many → IsOneOf (instance (next many i)) (references_at (ring many) (instance i))
next_referred many i l = subst (IsOneOf (instance (next many i))) (sym (references many i l)) (inl refl)

-- ---- nothing is inline

module _ (many : ℕ) (are : AreInstances (ring many) (instances many)) where
  no-target : (t u : Open) → IsReachable (ring many) t → ¬ (IsOneOf u (targets_at (ring many) t))
  no-target t u r o =
      let i = of_number many t (are.all t r) in
      subst (IsOneOf u) (ap (targets_at (ring many)) i.2 ∙ no_targets many i.0 i.1) o

  -- an inline path ends where it begins
  pub shallow : AreShallow (ring many)
  shallow t [] r path = omega arith
  shallow t (u ∷ us) r path = absurd (no-target t u r path.0)

-- one schema stands where that of an instance does
one-copy : (many n i : ℕ) → i < many → instance_copies (ring many) (suc n) (instance i) ≡ 1
one-copy many n i l = ap (λ (ts : List Open). suc (sum_over (instance_copies (ring many) n) ts)) (no_targets many i l)

copies-from : (many n a k : ℕ) → a + k ≤ many → sum_over (instance_copies (ring many) (suc n)) (map instance (range_with_len a k)) ≡ k
copies-from many n a zero l = refl
copies-from many n a (suc k) l = omega (arith, one-copy many n a (omega arith), copies-from many n (a + 1) k (omega arith))

-- in all there are as many as instances
pub copies : (many : ℕ) → sum_over (instance_copies (ring many) most_inlined) (instances many) ≡ many
copies many = copies-from many 31 0 many (omega arith)
