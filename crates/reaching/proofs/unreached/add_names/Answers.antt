use Rattle.std.proofs.Common.{◌≡◌, ◌∙◌, ℕ, List, [], ap, sym, subst, None, Some, bytes_eq, string_bytes, unwrap_or, option_map}
use Rattle.std.specs.BTreeMap.{get_by_text}
use Rattle.std.specs.Map.{update}
use Rattle.std.proofs.lemmas.Map.Text.{btree_map_updates_text}
use Rattle.reaching.specs.Reached.{node_of}
use Rattle.reaching.specs.Taken.{texts_of, names_in}
use Rattle.reaching.proofs.Borrowed.{update_in}
use Rattle.reaching.proofs.Taking.{names_added, names_found, names_new}
use Rattle.reaching.proofs.unreached.add_names.Goals as goal
use Rattle.reaching.proofs.unreached.add_names.Goals.{in-Some, in-None}

pub returns-in-Ok : goal.returns-in-Ok
returns-in-Ok c =
    let node = node_of c.args.node.now in
    let n = node.name in
    let old = names_in c.args.by_name.now in
    let left = names_in c.remove.new.self in
    let new = names_in c.insert.new.self in
    let value = c.push_names.new.names in
    let names : texts_of c.match-remove.names ≡ unwrap_or (old n) [] =
    elim c.match-remove.branch [
      | in-Some w ↦ ap texts_of w.names-is ∙ names_found (old n) (texts_of w.in-Some.names) (ap (option_map texts_of) (sym c.remove.ensures.value ∙ w.in-Some.is))
      | in-None w ↦ ap texts_of (w.names-is ∙ w.new-names.ensures) ∙ names_new (old n) (ap (option_map texts_of) (sym c.remove.ensures.value ∙ w.in-None.is))
    ] in
    let taken : (k : List ℕ) → left k ≡ update bytes_eq old n None k =
    update_in c.args.by_name.now c.remove.new.self n None (btree_map_updates_text n c.args.by_name.now c.remove.new.self None c.remove.ensures.updates) in
    let put : (k : List ℕ) → new k ≡ update bytes_eq left n (Some (texts_of value)) k =
    update_in c.remove.new.self c.insert.new.self n (Some value)
    (subst (λ bs. (k : List ℕ) → get_by_text c.insert.new.self k ≡ update bytes_eq (get_by_text c.remove.new.self) bs (Some value) k) c.in_ok-key.ensures.ok
    (btree_map_updates_text (string_bytes c.in_ok-key.key) c.remove.new.self c.insert.new.self (Some value) c.in-Ok.ensures.updates)) in
    names_added node old left new (texts_of c.match-remove.names) (texts_of value) names c.in_ok-push_names.ensures taken put
