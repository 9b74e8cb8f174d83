use Rattle.std.proofs.Common.{◌≡◌, ℕ, List, map, ap, ◌∙◌, subst}
use Rattle.std.specs.BTreeMap.{get_by_text}
use Rattle.texts.specs.Names.{place_in}
use Rattle.syntax.specs.declared.item.Declaration.{Declaration}
use Rattle.scopes.specs.Names.{texts}
use Rattle.syntax.specs.Items.{declaration_view}
use Rattle.scopes.specs.Parameters.{parameter_counts}
use Rattle.scopes.proofs.Declared.{declared_names-are}
use Rattle.scopes.proofs.scope.Places.new.Goals as goal

pub invariant_of-result : goal.invariant_of-result
invariant_of-result c =
    let names = ap (λ (ds : List Declaration). texts (map (λ d. d.ident) ds)) c.as_slice.ensures ∙ declared_names-are c.args.declarations.now.items in
    record {
      placed = subst (λ ns. (name : List ℕ) → get_by_text c.in_ok-by_name.by_name name ≡ place_in name ns) names c.in_ok-by_name.ensures;
      counted = c.in_ok-counts.ensures ∙ ap (λ (ds : List Declaration). parameter_counts (map declaration_view ds)) c.as_slice-2.ensures;
    }
