-- The instances of a ring have names of their own.
use Rattle.std.proofs.Common.{◌≡◌, ◌<◌, ◌^◌, ◌++◌, ℕ, List, [], refl, ap, sym, ◌∙◌, arith}
use Rattle.std.proofs.lemmas.Fmt.{decimal_injective}
use Rattle.std.proofs.lemmas.List.{append_cancel_right}
use Rattle.std.specs.Fmt.{decimal}
use Rattle.open_types.specs.TypeNames.{names_behind}
use Rattle.shapes.specs.Declarations.{DeclarationOf, declaration_at}
use Rattle.shapes.specs.InstanceNames.{instance_name}
use Rattle.instances.specs.Lists.{AreInstances}
use Rattle.instances.specs.Names.{NamesDiffer}
use Rattle.samples.specs.Rings.{Turn, plain_struct, generic_struct, tagged_enum, turn, letter, name, arguments, instance, ring, instances}
use Rattle.samples.proofs.Numbered.{declared}
use Rattle.samples.proofs.Reached.{of_number}

-- what stands behind the declaration's name in that of its instance: nothing, or `_bool`
abbrev behind : Turn → List ℕ
behind t = names_behind (λ d. []) (arguments t)

behind-is : (f : ℕ → List ℕ) (t : Turn) → names_behind f (arguments t) ≡ behind t
behind-is f plain_struct = refl
behind-is f generic_struct = refl
behind-is f tagged_enum = refl

-- the name of an instance
named_so : (many i : ℕ) → i < many → instance_name (ring many) (instance i) ≡ name i ++ behind (turn i)
named_so many i l =
    let own = ap (λ (s : DeclarationOf). s.name) (declared many i l) in
    let names = λ (d : ℕ). (declaration_at (ring many) d).name in
    ap (λ (ns : List ℕ). ns ++ names_behind names (arguments (turn i))) own ∙ ap (λ (ns : List ℕ). name i ++ ns) (behind-is names (turn i))

-- the letter tells whose turn it is
told : (t u : Turn) → letter t ≡ letter u → t ≡ u
told plain_struct plain_struct e = refl
told generic_struct generic_struct e = refl
told tagged_enum tagged_enum e = refl
told _ _ e = absurd (omega (arith, e))

-- equal names have equal numbers
told_apart : (i j : ℕ) → i < 2 ^ 64 → j < 2 ^ 64 → name i ++ behind (turn i) ≡ name j ++ behind (turn j) → i ≡ j
told_apart i j low below e =
    let first : letter (turn i) ≡ letter (turn j) = cc in
    let rest : decimal i ++ behind (turn i) ≡ decimal j ++ behind (turn j) = cc in
    let same : turn i ≡ turn j = told (turn i) (turn j) first in
    let ends : decimal i ++ behind (turn i) ≡ decimal j ++ behind (turn i) = rest ∙ ap (λ t. decimal j ++ behind t) (sym same) in
    decimal_injective i j low below (append_cancel_right (decimal i) (decimal j) (behind (turn i)) ends)

-- two instances of one name are one
pub names_differ : (many : ℕ) → many < 2 ^ 64 → AreInstances (ring many) (instances many) → NamesDiffer (ring many)
names_differ many fits are t u reach reaches e =
    let i = of_number many t (are.all t reach) in
    let j = of_number many u (are.all u reaches) in
    let left : instance_name (ring many) t ≡ name i.0 ++ behind (turn i.0) = ap (instance_name (ring many)) i.2 ∙ named_so many i.0 i.1 in
    let right : instance_name (ring many) u ≡ name j.0 ++ behind (turn j.0) = ap (instance_name (ring many)) j.2 ∙ named_so many j.0 j.1 in
    let same : i.0 ≡ j.0 = told_apart i.0 j.0 (omega (arith, i.1)) (omega (arith, j.1)) (sym left ∙ e ∙ right) in
    i.2 ∙ ap instance same ∙ sym j.2
