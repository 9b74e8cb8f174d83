-- Parts of lists of trees, between commas.
use Rattle.std.proofs.Common.{◌≡◌, ◌∙◌, ℕ, suc, ◌-◌, List, [], ◌∷◌, length, take, drop, ◌≤◌, refl, ap, ap₂, sym, arith, ◌<◌, ◌++◌, map, Bool, true, false, cond}
use Rattle.std.proofs.lemmas.List.{append_assoc, length-map, map_push, take_all}
use Rattle.tokens.specs.declared.token.TokenTree.{TokenTree}
use Rattle.tokens.specs.Trees.{Tree, tree_view}
use Rattle.prepare.specs.Trees.{before}
use Rattle.prepare.specs.declared.previous.Behind.{Behind}
use Rattle.prepare.specs.declared.previous.Behind.TheVariants.{Other}
use Rattle.prepare.specs.Ends.{behind}
use Rattle.prepare.specs.Fields.{is_comma, in_front, opened_after, parts_from, parts, from_comma}
use Rattle.prepare.proofs.Behind.{IsBehind, same, later, length_behind}

-- the first part of a list, by what stands from its comma on, and the others
abbrev first_of : (in_types : Bool) → List Tree → List Tree → List (List Tree)
first_of in_types ts comma = before ts comma ∷ parts_from in_types Other 0 (drop 1 comma)

-- (a part that goes on begins with the tree before it)
longer : (t : Tree) (ts comma : List Tree) → IsBehind comma ts → t ∷ before ts comma ≡ before (t ∷ ts) comma
longer t ts comma h =
    let fewer : suc (length ts - length comma) ≡ suc (length ts) - length comma = omega (arith, length_behind h) in
    ap (λ n. take n (t ∷ ts)) fewer

whole : (t : Tree) (ts : List Tree) → [] ≡ before (t ∷ ts) (t ∷ ts)
whole t ts = let none : 0 ≡ suc (length ts) - suc (length ts) = omega arith in ap (λ n. take n (t ∷ ts)) none

comma_if : (b : Bool) {x y ts : List Tree} → IsBehind x ts → IsBehind y ts → IsBehind (cond b x y) ts
comma_if true h g = h
comma_if false h g = g

module _ (in_types : Bool) where
  comma_behind : (was : Behind) (opened : ℕ) (ts : List Tree) → IsBehind (from_comma in_types was opened ts) ts
  comma_behind was n [] = same
  comma_behind was n (t ∷ ts) = comma_if (is_comma n t) same (later (comma_behind (behind was t) (opened_after in_types was n t) ts))

  at_end : (b : Bool) (t : Tree) → cond b ([] ∷ []) ((t ∷ []) ∷ []) ≡ first_of in_types (t ∷ []) (cond b (t ∷ []) [])
  at_end true t = refl
  at_end false t = refl

  going_on : (b : Bool) (t : Tree) (ts comma : List Tree) {more : List (List Tree)} → IsBehind comma ts → more ≡ first_of in_types ts comma
      → cond b ([] ∷ parts_from in_types Other 0 ts) (in_front t more) ≡ first_of in_types (t ∷ ts) (cond b (t ∷ ts) comma)
  going_on true t ts comma h e = ap (λ part. part ∷ parts_from in_types Other 0 ts) (whole t ts)
  going_on false t ts comma h e = ap (in_front t) e ∙ ap (λ part. part ∷ parts_from in_types Other 0 (drop 1 comma)) (longer t ts comma h)

  split_from : (was : Behind) (opened : ℕ) (t : Tree) (ts : List Tree) → parts_from in_types was opened (t ∷ ts) ≡ first_of in_types (t ∷ ts) (from_comma in_types was opened (t ∷ ts))
  split_from was n t [] = at_end (is_comma n t) t
  split_from was n t (u ∷ us) =
      let next = behind was t in
      let open_ones = opened_after in_types was n t in
      going_on (is_comma n t) t (u ∷ us) (from_comma in_types next open_ones (u ∷ us)) (comma_behind next open_ones (u ∷ us)) (split_from next open_ones u us)

  parts_split : (ts : List Tree) → 0 < length ts → parts in_types ts ≡ before ts (from_comma in_types Other 0 ts) ∷ parts in_types (drop 1 (from_comma in_types Other 0 ts))
  unfolding parts
  parts_split [] h = absurd (omega arith)
  parts_split (t ∷ ts) h = split_from Other 0 t ts

  -- with one part more the others are those behind its comma
  module _ {A : Type 0} (view : A → List Tree) where
    pub part_more : (found pushed : List A) (part : A) (rest comma behind all : List Tree) → pushed ≡ found ++ part ∷ [] → view part ≡ before rest comma → comma ≡ from_comma in_types Other 0 rest
        → behind ≡ drop 1 comma → 0 < length rest → map view found ++ parts in_types rest ≡ parts in_types all → map view pushed ++ parts in_types behind ≡ parts in_types all
    part_more found pushed part rest comma behind all p q r s h e =
        let split : parts in_types rest ≡ view part ∷ parts in_types behind = parts_split rest h ∙ ap₂ (λ (x y : List Tree). before rest x ∷ parts in_types (drop 1 y)) (sym r) (sym r) ∙ ap₂ (λ x y. x ∷ parts in_types y) (sym q) (sym s) in
        ap (λ v. map view v ++ parts in_types behind) p ∙ ap (λ v. v ++ parts in_types behind) (map_push view found part) ∙ append_assoc (map view found) (view part ∷ []) (parts in_types behind) ∙ ap (λ v. map view found ++ v) (sym split) ∙ e

-- ---- by the program's trees
pub behind_view : (ts : List TokenTree) → map tree_view (take (length ts - 1) (drop 1 ts)) ≡ drop 1 (map tree_view ts)
behind_view [] = refl
behind_view (t ∷ ts) = ap (map tree_view) (take_all (suc (length ts) - 1) ts (omega arith))

pub no_view : (ts : List TokenTree) → length ts < 1 → map tree_view ts ≡ drop 1 (map tree_view ts)
no_view [] h = refl
no_view (t ∷ ts) h = absurd (omega (arith, h))

pub comma_within : (in_types : Bool) (ts comma : List TokenTree) → map tree_view comma ≡ from_comma in_types Other 0 (map tree_view ts) → length comma ≤ length ts
comma_within in_types ts comma e =
    let fewer = length_behind (comma_behind in_types Other 0 (map tree_view ts)) in
    let all = length-map ts tree_view in
    let some : length comma ≡ length (from_comma in_types Other 0 (map tree_view ts)) = sym (length-map comma tree_view) ∙ ap length e in
    omega (arith, fewer, all, some)

pub some_view : (ts : List TokenTree) → 0 < length ts → 0 < length (map tree_view ts)
some_view ts h = let all = length-map ts tree_view in omega (arith, all, h)
