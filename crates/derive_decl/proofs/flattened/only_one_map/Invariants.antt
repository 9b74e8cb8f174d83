use Rattle.std.proofs.Common.{◌≡◌, [], map, take}
use Rattle.std.specs.List.{cons_option}
use Rattle.derive_decl.specs.Resolved.{maps_among}
use Rattle.derive_decl.specs.Views.{typed_view}
use Rattle.derive_decl.proofs.flattened.only_one_map.Given as goal

-- the first map is the only one so far
abbrev pub invariant-loop-typed : goal.invariant-loop-typed
invariant-loop-typed l = maps_among (map typed_view (take l.typed-index l.fields)) ≡ map (λ f. typed_view f.now) (cons_option l.first [])
