use Rattle.std.proofs.Common.{◌≡◌, ◌∙◌, ◌<◌, ◌-◌, ℕ, List, length, get_or, ap, sym, arith, None, Some, bytes_eq, rules, option_map}
use Rattle.std.specs.List.{remove}
use Rattle.std.specs.Map.{update}
use Rattle.std.proofs.lemmas.List.{length-map}
use Rattle.std.proofs.lemmas.Map.Text.{btree_map_updates_text}
use Rattle.reaching.specs.Taken.{texts_of, names_in}
use Rattle.reaching.proofs.Borrowed.{update_in, removed, item_of}
use Rattle.reaching.proofs.Taking.{takes_one, none_taken, none_fewer, none_enough}
use Rattle.reaching.proofs.unreached.next_names.Goals as goal

pub returns-in-Some-clause-takes : goal.returns-in-Some-clause-takes
returns-in-Some-clause-takes c =
    let refs = c.reached.reached in
    let w = texts_of refs in
    let name = c.remove-name.result.now in
    let rest = texts_of c.remove-name.new.self in
    let by = names_in c.reached.by_name in
    let after = names_in c.remove.new.self in
    let wanted = texts_of c.args.reached.now in
    let before = names_in c.args.by_name.now in
    let kept = c.reached.invariant in
    let some : 0 < length refs = search rules in
    let i = length refs - 1 in
    let low : i < length refs = omega arith in
    let many : length w ≡ length refs = length-map refs (λ t. t.now) in
    let within : i < length w = omega arith in
    let is : name ≡ get_or w i name = item_of refs i c.remove-name.result low (rw c.len.ensures at c.remove-name.ensures.item) in
    let left : rest ≡ remove w i = removed refs c.remove-name.new.self i (rw c.len.ensures at c.remove-name.ensures.rest) in
    let taken : (k : List ℕ) → after k ≡ update bytes_eq by name None k =
    update_in c.reached.by_name c.remove.new.self name None (btree_map_updates_text name c.reached.by_name c.remove.new.self None c.remove.ensures.updates) in
    let had : by name ≡ Some (texts_of c.in-Some.names) = ap (option_map texts_of) (sym c.remove.ensures.value ∙ c.in-Some.is) in
    takes_one w rest name i by after within is left taken wanted before kept.same kept.fewer kept.enough (texts_of c.in-Some.names) had

pub reached-preserved : goal.reached-preserved
reached-preserved c =
    let refs = c.reached.reached in
    let w = texts_of refs in
    let name = c.remove-name.result.now in
    let rest = texts_of c.remove-name.new.self in
    let by = names_in c.reached.by_name in
    let after = names_in c.remove.new.self in
    let wanted = texts_of c.args.reached.now in
    let before = names_in c.args.by_name.now in
    let kept = c.reached.invariant in
    let some : 0 < length refs = search rules in
    let i = length refs - 1 in
    let low : i < length refs = omega arith in
    let many : length w ≡ length refs = length-map refs (λ t. t.now) in
    let within : i < length w = omega arith in
    let is : name ≡ get_or w i name = item_of refs i c.remove-name.result low (rw c.len.ensures at c.remove-name.ensures.item) in
    let left : rest ≡ remove w i = removed refs c.remove-name.new.self i (rw c.len.ensures at c.remove-name.ensures.rest) in
    let taken : (k : List ℕ) → after k ≡ update bytes_eq by name None k =
    update_in c.reached.by_name c.remove.new.self name None (btree_map_updates_text name c.reached.by_name c.remove.new.self None c.remove.ensures.updates) in
    let none : by name ≡ None = ap (option_map texts_of) (sym c.remove.ensures.value ∙ c.in_default.is) in
    record {
      same = none_taken w rest name i by after within is left taken wanted before kept.same kept.fewer kept.enough none;
      many = omega (arith, c.in_default.ensures.len, kept.many);
      fewer = none_fewer w rest name i by after within is left taken wanted before kept.same kept.fewer kept.enough none;
      enough = none_enough w rest name i by after within is left taken wanted before kept.same kept.fewer kept.enough none;
    }
