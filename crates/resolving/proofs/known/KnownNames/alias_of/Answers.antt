use Rattle.std.proofs.Common.{◌≡◌, Option, Some, None, option_map, option_and_then, ℕ, List, ap, sym, ◌∙◌, rules, zero, suc, [], ◌∷◌, ◌≤◌, length, refl, arith}
use Rattle.std.specs.List.{slice_get}
use Rattle.std.proofs.lemmas.Option.{slice_get_read}
use Rattle.std.specs.BTreeMap.{get_by_text}
use Rattle.written_types.specs.declared.written.WrittenType.{WrittenType}
use Rattle.written_types.specs.Written.{Written, written_view}
use Rattle.resolving.specs.Known.{type_at}
use Rattle.resolving.proofs.known.KnownNames.alias_of.Goals as goal

held : (o : Option ℕ) (place : ℕ) (ts : List WrittenType) (t : WrittenType) → Some place ≡ o → Some t ≡ slice_get ts place
    → (x : Written) × (type_at ts place ≡ Some x) × (option_and_then (type_at ts) o ≡ Some x)
held o place ts t e f =
    let at : type_at ts place ≡ Some (written_view t) = ap (option_map written_view) (sym f) in
    (written_view t, at, ap (option_and_then (type_at ts)) (sym e) ∙ at)

missed : (o : Option ℕ) (place : ℕ) (ts : List WrittenType) → Some place ≡ o → None ≡ slice_get ts place → option_and_then (type_at ts) o ≡ None
missed o place ts e f = ap (option_and_then (type_at ts)) (sym e) ∙ ap (option_map written_view) (sym f)

past : (ts : List WrittenType) (i : ℕ) → length ts ≤ i → slice_get ts i ≡ None
past [] i h = refl
past (t ∷ ts) zero h = absurd (omega arith)
past (t ∷ ts) (suc i) h = past ts i (omega arith)

pub returns-in-Some-get : goal.returns-in-Some-get
returns-in-Some-get c =
    let ts = c.args.self.now.alias_types.now in
    let at = c.in-Some-get.ensures.lookup in
    held (get_by_text c.args.self.now.aliases.now c.args.name.now) c.in-Some.place.now ts c.in-Some-get.field-0.now (search rules)
    (sym (slice_get_read ts (length ts) c.in-Some.place.now c.in-Some-get.field-0.now refl at.3.0 at.1))

pub returns-in-None-get : goal.returns-in-None-get
returns-in-None-get c =
    let ts = c.args.self.now.alias_types.now in
    missed (get_by_text c.args.self.now.aliases.now c.args.name.now) c.in-Some.place.now ts (search rules) (sym (past ts c.in-Some.place.now (search rules)))
