-- How the logic stores a JSON value, so that a model may hold one.
use Rattle.std.proofs.Common.{◌≡◌, ◌≢◌, ℕ, refl, ap, arith}
use Rattle.std.specs.Coded.{Coded, coded_ℕ, coded_ℤ, coded_bool, coded_list}
use base.Stored.{Gv, gnil, gnum, gcons}
use Rattle.acceptance.specs.Json.{Json, null, boolean, number, text, list, map, Items, no_items, item, Members, no_members, member}

-- parts of a code, and codes with different numbers before them
abbrev pub head : Gv → Gv
head gnil = gnil
head (gnum n) = gnil
head (gcons a b) = a

abbrev pub tail : Gv → Gv
tail gnil = gnil
tail (gnum n) = gnil
tail (gcons a b) = b

pub apart : (m n : ℕ) {a b : Gv} → gcons (gnum m) a ≡ gcons (gnum n) b → m ≢ n → ⊥
apart m n p other = other (cc)

abbrev mutual
  pub json_code : Json → Gv
  json_code null = gcons (gnum 0) gnil
  json_code (boolean a0) = gcons (gnum 1) (coded_bool.code a0)
  json_code (number a0) = gcons (gnum 2) (coded_ℤ.code a0)
  json_code (text a0) = gcons (gnum 3) ((coded_list coded_ℕ).code a0)
  json_code (list a0) = gcons (gnum 4) (items_code a0)
  json_code (map a0) = gcons (gnum 5) (members_code a0)

  pub items_code : Items → Gv
  items_code no_items = gcons (gnum 0) gnil
  items_code (item a0 a1) = gcons (gnum 1) (gcons (json_code a0) (items_code a1))

  pub members_code : Members → Gv
  members_code no_members = gcons (gnum 0) gnil
  members_code (member a0 a1 a2) = gcons (gnum 1) (gcons ((coded_list coded_ℕ).code a0) (gcons (json_code a1) (members_code a2)))

mutual
  pub json_inj : (x y : Json) → json_code x ≡ json_code y → x ≡ y
  json_inj null null p = refl
  json_inj null (boolean b0) p = absurd (apart 0 1 p (omega arith))
  json_inj null (number b0) p = absurd (apart 0 2 p (omega arith))
  json_inj null (text b0) p = absurd (apart 0 3 p (omega arith))
  json_inj null (list b0) p = absurd (apart 0 4 p (omega arith))
  json_inj null (map b0) p = absurd (apart 0 5 p (omega arith))
  json_inj (boolean a0) null p = absurd (apart 1 0 p (omega arith))
  json_inj (boolean a0) (boolean b0) p = λ i. boolean (coded_bool.inj a0 b0 (ap (λ g. tail g) p) i)
  json_inj (boolean a0) (number b0) p = absurd (apart 1 2 p (omega arith))
  json_inj (boolean a0) (text b0) p = absurd (apart 1 3 p (omega arith))
  json_inj (boolean a0) (list b0) p = absurd (apart 1 4 p (omega arith))
  json_inj (boolean a0) (map b0) p = absurd (apart 1 5 p (omega arith))
  json_inj (number a0) null p = absurd (apart 2 0 p (omega arith))
  json_inj (number a0) (boolean b0) p = absurd (apart 2 1 p (omega arith))
  json_inj (number a0) (number b0) p = λ i. number (coded_ℤ.inj a0 b0 (ap (λ g. tail g) p) i)
  json_inj (number a0) (text b0) p = absurd (apart 2 3 p (omega arith))
  json_inj (number a0) (list b0) p = absurd (apart 2 4 p (omega arith))
  json_inj (number a0) (map b0) p = absurd (apart 2 5 p (omega arith))
  json_inj (text a0) null p = absurd (apart 3 0 p (omega arith))
  json_inj (text a0) (boolean b0) p = absurd (apart 3 1 p (omega arith))
  json_inj (text a0) (number b0) p = absurd (apart 3 2 p (omega arith))
  json_inj (text a0) (text b0) p = λ i. text ((coded_list coded_ℕ).inj a0 b0 (ap (λ g. tail g) p) i)
  json_inj (text a0) (list b0) p = absurd (apart 3 4 p (omega arith))
  json_inj (text a0) (map b0) p = absurd (apart 3 5 p (omega arith))
  json_inj (list a0) null p = absurd (apart 4 0 p (omega arith))
  json_inj (list a0) (boolean b0) p = absurd (apart 4 1 p (omega arith))
  json_inj (list a0) (number b0) p = absurd (apart 4 2 p (omega arith))
  json_inj (list a0) (text b0) p = absurd (apart 4 3 p (omega arith))
  json_inj (list a0) (list b0) p = λ i. list (items_inj a0 b0 (ap (λ g. tail g) p) i)
  json_inj (list a0) (map b0) p = absurd (apart 4 5 p (omega arith))
  json_inj (map a0) null p = absurd (apart 5 0 p (omega arith))
  json_inj (map a0) (boolean b0) p = absurd (apart 5 1 p (omega arith))
  json_inj (map a0) (number b0) p = absurd (apart 5 2 p (omega arith))
  json_inj (map a0) (text b0) p = absurd (apart 5 3 p (omega arith))
  json_inj (map a0) (list b0) p = absurd (apart 5 4 p (omega arith))
  json_inj (map a0) (map b0) p = λ i. map (members_inj a0 b0 (ap (λ g. tail g) p) i)

  pub items_inj : (x y : Items) → items_code x ≡ items_code y → x ≡ y
  items_inj no_items no_items p = refl
  items_inj no_items (item b0 b1) p = absurd (apart 0 1 p (omega arith))
  items_inj (item a0 a1) no_items p = absurd (apart 1 0 p (omega arith))
  items_inj (item a0 a1) (item b0 b1) p = λ i. item (json_inj a0 b0 (ap (λ g. head (tail g)) p) i) (items_inj a1 b1 (ap (λ g. tail (tail g)) p) i)

  pub members_inj : (x y : Members) → members_code x ≡ members_code y → x ≡ y
  members_inj no_members no_members p = refl
  members_inj no_members (member b0 b1 b2) p = absurd (apart 0 1 p (omega arith))
  members_inj (member a0 a1 a2) no_members p = absurd (apart 1 0 p (omega arith))
  members_inj (member a0 a1 a2) (member b0 b1 b2) p = λ i. member ((coded_list coded_ℕ).inj a0 b0 (ap (λ g. head (tail g)) p) i) (json_inj a1 b1 (ap (λ g. head (tail (tail g))) p) i) (members_inj a2 b2 (ap (λ g. tail (tail (tail g))) p) i)

abbrev pub coded_json : Coded Json
coded_json = record { code = json_code; inj = json_inj }
