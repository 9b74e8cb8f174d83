use Rattle.std.proofs.Common.{◌≡◌, ◌≢◌, ◌∙◌, ℕ, List, map, ap, sym, inl, inr, nat_cmp, Ordering, Less, Equal, Greater}
use Rattle.std.specs.Cmp.Lexicographic.{slice_cmp}
use Rattle.std.specs.Ordering.{ordering_reverse}
use Rattle.std.proofs.lemmas.Cmp.{nat_list_cmp_total}
use Rattle.std.proofs.lemmas.Result.{IfOk-weaker}
use Rattle.shapes.specs.Views.{declaration_view}
use Rattle.instances.specs.Lists.{instance_at}
use Rattle.compose.specs.Bounds.{instance_text, IsClash, IsClashOf}
use Rattle.compose.proofs.refusals.clash.Goals as goal

less : (o : Ordering) → o ≡ Less → o ≢ Greater
less o e g = let both : Less ≡ Greater = sym e ∙ g in cc

equal : (o : Ordering) → o ≡ Equal → o ≢ Greater
equal o e g = let both : Equal ≡ Greater = sym e ∙ g in cc

turned : (a b : List ℕ) → slice_cmp nat_cmp a b ≡ Greater → slice_cmp nat_cmp b a ≢ Greater
turned a b g = less (slice_cmp nat_cmp b a) (nat_list_cmp_total.antisymm b a ∙ ap ordering_reverse g)

compared : (o : Ordering) (a b x y : List ℕ) → o ≡ slice_cmp nat_cmp a b → a ≡ x → b ≡ y → o ≡ slice_cmp nat_cmp x y
compared o a b x y e f g = e ∙ (λ i. slice_cmp nat_cmp (f i) (g i))

pub returns-in-Greater : goal.returns-in-Greater
returns-in-Greater c =
    let ds = c.args.idents.now in
    let ss = map declaration_view c.args.resolved.now in
    let t = instance_at c.args.reach.now c.args.first in
    let u = instance_at c.args.reach.now c.args.second in
    let order = compared c.cmp.result c.as_str.result.now c.as_str-2.result.now (instance_text ds t) (instance_text ds u) c.cmp.ensures (c.as_str.ensures ∙ c.in_ok-text.ensures) (c.as_str-2.ensures ∙ c.in_ok-other.ensures) in
    IfOk-weaker c.ordered_clash.result (IsClashOf ds ss u t) (IsClash ds ss)
    (λ e clash. (u, t, c.requires.reachable.1, c.requires.reachable.0, (λ same. c.requires.differ (sym same)), sym c.requires.name, turned (instance_text ds t) (instance_text ds u) (sym order ∙ c.in-Greater.is), clash)) c.ordered_clash.ensures

pub returns : goal.returns
returns c =
    let ds = c.args.idents.now in
    let ss = map declaration_view c.args.resolved.now in
    let t = instance_at c.args.reach.now c.args.first in
    let u = instance_at c.args.reach.now c.args.second in
    let order = compared c.cmp.result c.as_str.result.now c.as_str-2.result.now (instance_text ds t) (instance_text ds u) c.cmp.ensures (c.as_str.ensures ∙ c.in_ok-text.ensures) (c.as_str-2.ensures ∙ c.in_ok-other.ensures) in
    let ordered : slice_cmp nat_cmp (instance_text ds t) (instance_text ds u) ≢ Greater = elim c.in-Less.is [ inl e ↦ less _ (sym order ∙ e) | inr e ↦ equal _ (sym order ∙ e) ] in
    IfOk-weaker c.ordered_clash-in-Less.result (IsClashOf ds ss t u) (IsClash ds ss)
    (λ e clash. (t, u, c.requires.reachable.0, c.requires.reachable.1, c.requires.differ, c.requires.name, ordered, clash)) c.ordered_clash-in-Less.ensures
