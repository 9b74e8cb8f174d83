-- The aliases of a configuration, one after another.
use Rattle.std.proofs.Common.{◌≡◌, ◌∙◌, ◌<◌, ◌≤◌, ◌+◌, ℕ, zero, suc, List, [], ◌∷◌, ◌++◌, map, length, get_or, take, ap, sym, arith, add-one, false}
use Rattle.std.proofs.lemmas.List.{length-map, take_all}
use Rattle.written_types.specs.Written.{Written, written_view}
use Rattle.written_types.specs.declared.written.WrittenType.{WrittenType}
use Rattle.configuration.specs.Aliases.{alias_names, alias_types, last_names}
use Rattle.configuration.specs.Configuration as configured
use Rattle.reaching.specs.declared.node.Node.{Node}
use Rattle.selecting.specs.Selected.{configured_node}

head : (x y : Written) (xs ys : List Written) → x ∷ xs ≡ y ∷ ys → x ≡ y
head x y xs ys e = cc

tail : (x y : Written) (xs ys : List Written) → x ∷ xs ≡ y ∷ ys → xs ≡ ys
tail x y xs ys e = cc

-- the alias of the next name and the next type
next : (all : List configured.Alias) (types : List WrittenType) (at : ℕ) (n : List ℕ) (t : WrittenType) → map written_view types ≡ alias_types all → at < length all → n ≡ get_or (alias_names all) at n → t ≡ get_or types at t
    → map configured_node (take (suc at) all) ≡ map configured_node (take at all) ++ record { name = n; is_first = false; names = last_names (written_view t) } ∷ []
next [] types at n t are low is of = absurd (omega arith)
next (a ∷ all) [] at n t are low is of = cc
next (a ∷ all) (u ∷ types) zero n t are low is of =
    let view : a.of ≡ written_view t = sym (head (written_view u) a.of (map written_view types) (alias_types all) are) ∙ ap written_view (sym of) in
    λ i. record { name = sym is i; is_first = false; names = last_names (view i) } ∷ []
next (a ∷ all) (u ∷ types) (suc at) n t are low is of =
    ap (λ xs. configured_node a ∷ xs) (next all types at n t (tail (written_view u) a.of (map written_view types) (alias_types all) are) (omega arith) is of)

pub alias_added : (all : List configured.Alias) (names : List (List ℕ)) (types : List WrittenType) (at : ℕ) (n : List ℕ) (t : WrittenType) (copy : List ℕ) (last : List (List ℕ)) (found : List Node) → names ≡ alias_names all → map written_view types ≡ alias_types all
    → at < length names → n ≡ get_or names at n → t ≡ get_or types at t → copy ≡ n → last ≡ last_names (written_view t) → found ≡ map configured_node (take at all) → found ++ record { name = copy; is_first = false; names = last } ∷ [] ≡ map configured_node (take (at + 1) all)
alias_added all names types at n t copy last found is are low here there copied named so_far =
    let many : length names ≡ length all = ap length is ∙ length-map all (λ a. a.name) in
    (λ i. so_far i ++ record { name = copied i; is_first = false; names = named i } ∷ [])
    ∙ sym (next all types at n t are (omega arith) (here ∙ ap (λ ns. get_or ns at n) is) there)
    ∙ ap (λ m. map configured_node (take m all)) (sym (add-one at))

pub all_added : (all : List configured.Alias) (names : List (List ℕ)) (at : ℕ) (found : List Node) → names ≡ alias_names all → length names ≤ at → found ≡ map configured_node (take at all) → found ≡ map configured_node all
all_added all names at found is high so_far =
    let many : length names ≡ length all = ap length is ∙ length-map all (λ a. a.name) in
    so_far ∙ ap (map configured_node) (take_all at all (omega arith))
