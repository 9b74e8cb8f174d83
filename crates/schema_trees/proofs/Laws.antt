-- A JSON value is what is read of the value of serde_json that holds it.
use Rattle.std.proofs.Common.{pos, negsuc, ◌≡◌, refl, ap}
use Rattle.acceptance.specs.Json.{Json, null, boolean, number, text, list, map, Items, no_items, item, Members, no_members, member}
use Rattle.acceptance.specs.Data.{data_of, items_data, members_data, json_of, json_items, json_members}

mutual
  pub read-data : (v : Json) → json_of (data_of v) ≡ v
  read-data null = refl
  read-data (boolean b) = refl
  read-data (number (pos n)) = refl
  read-data (number (negsuc n)) = refl
  read-data (text s) = refl
  read-data (list xs) = ap list (read-items xs)
  read-data (map ms) = ap map (read-members ms)

  read-items : (xs : Items) → json_items (items_data xs) ≡ xs
  read-items no_items = refl
  read-items (item x xs) = λ i. item (read-data x i) (read-items xs i)

  read-members : (ms : Members) → json_members (members_data ms) ≡ ms
  read-members no_members = refl
  read-members (member k x ms) = λ i. member k (read-data x i) (read-members ms i)
