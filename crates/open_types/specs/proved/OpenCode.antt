-- How the logic stores a resolved type, so that a model may hold one.
use Rattle.std.proofs.Common.{◌≡◌, ℕ, refl, ap}
use Rattle.std.specs.Coded.{Coded, coded_ℕ}
use base.Stored.{Gv, gnil, gnum, gcons}
use Rattle.leaves.specs.contracts.leaf.Leaf as leaves
use Rattle.open_types.specs.contracts.open_type.ListHead as lists
use Rattle.open_types.specs.contracts.open_type.SetHead as sets
use Rattle.open_types.specs.contracts.open_type.MapHead as maps
use Rattle.open_types.specs.contracts.open_type.ThroughHead as throughs
use Rattle.open_types.specs.Open.{Open, Opens, leaf, any_value, free_object, unit, tuple, items, set, map_of, option, through, param, named, no_types, more_types}

abbrev mutual
  pub open_code : Open → Gv
  open_code (leaf x) = gcons (gnum 0) (leaves.the_row.coded.code x)
  open_code any_value = gcons (gnum 1) gnil
  open_code free_object = gcons (gnum 2) gnil
  open_code unit = gcons (gnum 3) gnil
  open_code (tuple ts) = gcons (gnum 4) (opens_code ts)
  open_code (items h t) = gcons (gnum 5) (gcons (lists.the_row.coded.code h) (open_code t))
  open_code (set h t) = gcons (gnum 6) (gcons (sets.the_row.coded.code h) (open_code t))
  open_code (map_of h k t) = gcons (gnum 7) (gcons (maps.the_row.coded.code h) (gcons (open_code k) (open_code t)))
  open_code (option t) = gcons (gnum 8) (open_code t)
  open_code (through h t) = gcons (gnum 9) (gcons (throughs.the_row.coded.code h) (open_code t))
  open_code (param i) = gcons (gnum 10) (gnum i)
  open_code (named d ts) = gcons (gnum 11) (gcons (gnum d) (opens_code ts))

  pub opens_code : Opens → Gv
  opens_code no_types = gnil
  opens_code (more_types t ts) = gcons (open_code t) (opens_code ts)

mutual
  pub open_inj : (x y : Open) → open_code x ≡ open_code y → x ≡ y
  open_inj (leaf x) (leaf y) p = ap leaf (leaves.the_row.coded.inj x y (cc))
  open_inj any_value any_value p = refl
  open_inj free_object free_object p = refl
  open_inj unit unit p = refl
  open_inj (tuple ts) (tuple us) p = ap tuple (opens_inj ts us (cc))
  open_inj (items g s) (items h t) p = λ i. items (lists.the_row.coded.inj g h (cc) i) (open_inj s t (cc) i)
  open_inj (set g s) (set h t) p = λ i. set (sets.the_row.coded.inj g h (cc) i) (open_inj s t (cc) i)
  open_inj (map_of g j s) (map_of h k t) p = λ i. map_of (maps.the_row.coded.inj g h (cc) i) (open_inj j k (cc) i) (open_inj s t (cc) i)
  open_inj (option s) (option t) p = ap option (open_inj s t (cc))
  open_inj (through g s) (through h t) p = λ i. through (throughs.the_row.coded.inj g h (cc) i) (open_inj s t (cc) i)
  open_inj (param i) (param j) p = cc
  open_inj (named d ts) (named e us) p = let place : d ≡ e = cc in λ i. named (place i) (opens_inj ts us (cc) i)
  open_inj _ _ p = cc

  pub opens_inj : (xs ys : Opens) → opens_code xs ≡ opens_code ys → xs ≡ ys
  opens_inj no_types no_types p = refl
  opens_inj (more_types s ss) (more_types t ts) p = λ i. more_types (open_inj s t (cc) i) (opens_inj ss ts (cc) i)
  opens_inj _ _ p = cc

abbrev pub coded_open : Coded Open
coded_open = record { code = open_code; inj = open_inj }
