-- Borrowed texts, and maps of them.
use Rattle.std.proofs.Common.{◌≡◌, ◌∙◌, ◌<◌, ℕ, zero, suc, String, List, [], ◌∷◌, length, get_or, map, refl, ap, sym, Bool, true, false, cond, bytes_eq, Option, Some, None, option_map}
use Rattle.std.specs.Borrow.{Bor}
use Rattle.std.specs.BTreeMap.{BTreeMap, get_by_text}
use Rattle.std.specs.List.{remove}
use Rattle.std.specs.Map.{update}
use Rattle.std.proofs.lemmas.List.{get_or-map}
use Rattle.reaching.specs.declared.node.Node.{Node}
use Rattle.reaching.specs.Reached.{AreUnreached}
use Rattle.reaching.specs.Taken.{texts_of, names_in}

cond_in : {A B : Type 0} (f : A → B) (b : Bool) (o p : Option A) → option_map f (cond b o p) ≡ cond b (option_map f o) (option_map f p)
cond_in f true o p = refl
cond_in f false o p = refl

-- what a change of a map does to the texts in it
pub update_in : {Y : Type 0} (m n : BTreeMap (String Y) (List (Bor (List ℕ)))) (bs : List ℕ) (w : Option (List (Bor (List ℕ)))) → ((k : List ℕ) → get_by_text n k ≡ update bytes_eq (get_by_text m) bs w k)
    → (k : List ℕ) → names_in n k ≡ update bytes_eq (names_in m) bs (option_map texts_of w) k
update_in m n bs w h k = ap (option_map texts_of) (h k) ∙ cond_in texts_of (bytes_eq bs k) w (get_by_text m k)

remove_in : {A B : Type 0} (f : A → B) (xs : List A) (i : ℕ) → map f (remove xs i) ≡ remove (map f xs) i
remove_in f [] zero = refl
remove_in f [] (suc i) = refl
remove_in f (x ∷ xs) zero = refl
remove_in f (x ∷ xs) (suc i) = ap (λ ys. f x ∷ ys) (remove_in f xs i)

pub removed : (xs rest : List (Bor (List ℕ))) (i : ℕ) → rest ≡ remove xs i → texts_of rest ≡ remove (texts_of xs) i
removed xs rest i e = ap texts_of e ∙ remove_in (λ t. t.now) xs i

pub item_of : (xs : List (Bor (List ℕ))) (i : ℕ) (x : Bor (List ℕ)) → i < length xs → x ≡ get_or xs i x → x.now ≡ get_or (texts_of xs) i x.now
item_of xs i x low e = ap (λ (t : Bor (List ℕ)). t.now) e ∙ sym (get_or-map (λ t. t.now) xs i x x.now low)

-- where there is nothing, there are no texts
none_in : {A B : Type 0} (f : A → B) (o : Option A) → (option_map f o ≡ None) → o ≡ None
none_in f None e = refl
none_in f (Some x) e = cc

pub unreached_in : {Y : Type 0} (m : BTreeMap (String Y) (List (Bor (List ℕ)))) (nodes : List Node) → AreUnreached nodes (names_in m) → AreUnreached nodes (get_by_text m)
unreached_in m nodes h n is = (λ e. (h n is).0 (ap (option_map texts_of) e), λ r. none_in texts_of (get_by_text m n.name) ((h n is).1 r))
