-- What is found of a file whose trees are read some at a time.
use Rattle.std.proofs.Common.{◌≡◌, ◌∙◌, ℕ, zero, suc, ◌-◌, ◌≤◌, List, [], ◌∷◌, ◌++◌, length, map, drop, refl, ap, sym, subst, arith, append_assoc, true, false, Result, Ok, Err}
use Rattle.std.proofs.lemmas.List.{append-nil, length-map}
use Rattle.texts.specs.declared.span.Span.{Span}
use Rattle.tokens.specs.declared.token.TokenTree.{TokenTree}
use Rattle.tokens.specs.Trees.{Tree, tree_view}
use Rattle.lexing.specs.Chunks.{IsReadTo}
use Rattle.prepare.specs.declared.item.Standing.{Standing}
use Rattle.prepare.specs.declared.item.Stop.{Stop}
use Rattle.prepare.specs.declared.item.Stop.TheVariants as stop
use Rattle.prepare.specs.declared.reading.Reading.{Reading}
use Rattle.prepare.specs.Trees.{before}
use Rattle.prepare.specs.Attributes.{after_inner, is_for_tests}
use Rattle.prepare.specs.Standing.{AreItems, StandUpTo, none_yet, PassesItems, StandInside, for_tests, items, StopAt, StopInside, in_items, Finds}
use Rattle.prepare.specs.Reading.{window_of, Reads, Grows, MayFollow, IsBehindInner, StandSoFar, FoundOf, IsFoundIn, ReadsToEnd, IsFound}
use Rattle.prepare.proofs.Behind.{IsBehind, same, later, length_behind}
use Rattle.prepare.proofs.More.{before_more}
use Rattle.prepare.proofs.Stands.{up_to_then, up_to_items, up_to_stops, up_to_more, stops_more, inside_excludes}

-- ---- what is kept

dropped : {rest ts : List Tree} → IsBehind rest ts → drop (length ts - length rest) ts ≡ rest
dropped {ts = ts} same = let none : length ts - length ts ≡ 0 = omega arith in ap (λ n. drop n ts) none
dropped {rest = rest} (later {t = t} {ts = ts} h) =
    let more : length (t ∷ ts) - length rest ≡ suc (length ts - length rest) = omega (arith, length_behind h) in
    ap (λ n. drop n (t ∷ ts)) more ∙ dropped h

dropped_view : (n : ℕ) (ts : List TokenTree) → map tree_view (drop n ts) ≡ drop n (map tree_view ts)
dropped_view zero ts = refl
dropped_view (suc n) [] = refl
dropped_view (suc n) (t ∷ ts) = dropped_view n ts

pub kept_is : (all rest kept : List TokenTree) (count : ℕ) → IsBehind (map tree_view rest) (map tree_view all) → count ≡ length rest → kept ≡ drop (length all - count) all → map tree_view kept ≡ map tree_view rest
kept_is all rest kept count behind of is =
    let few : length all - count ≡ length (map tree_view all) - length (map tree_view rest) = omega (arith, of, length-map all tree_view, length-map rest tree_view) in
    ap (map tree_view) is ∙ dropped_view (length all - count) all ∙ ap (λ n. drop n (map tree_view all)) few ∙ dropped behind

pub fits : (all rest : List TokenTree) (count : ℕ) → IsBehind (map tree_view rest) (map tree_view all) → count ≡ length rest → count ≤ length all
fits all rest count behind of = omega (arith, of, length_behind behind, length-map all tree_view, length-map rest tree_view)

pub reads_kept : (source : List ℕ) (r kept : Reading) (seen : List Tree) → kept.chunks ≡ r.chunks → kept.is_whole ≡ r.is_whole → Reads source r seen → Reads source kept seen
reads_kept source r kept seen same_chunks same_end h = record {
  trees = h.trees;
  of = ap (λ c. c.source.now) same_chunks ∙ h.of;
  are = h.are;
  shallow = h.shallow;
  goes_on = λ e. subst (λ c. IsReadTo c h.trees) (sym same_chunks) (h.goes_on (sym same_end ∙ e));
  ends = λ e. h.ends (sym same_end ∙ e);
}

-- ---- item by item

-- of a file of which nothing was gone through but for its inner attributes, this stands so far
pub record Gone (then now : Reading) (standing : List Standing) : Type 0 where
  pub reads : (source : List ℕ) (seen : List Tree) → Reads source then seen → (more : List Tree) × Reads source now more
  pub stands : (source : List ℕ) (seen : List Tree) → Reads source then seen → StandSoFar then seen [] → (more : List Tree) × Reads source now more × StandSoFar now more standing

-- where the items at the front are gone through
pub so_far_kept : (r kept : Reading) (seen rest : List Tree) (standing found : List Standing) → StandSoFar r seen standing → r.is_whole ≡ false → StandUpTo (window_of r) rest found → window_of kept ≡ rest → StandSoFar kept seen (standing ++ found)
so_far_kept r kept seen rest standing found h open_ended passed is = λ more follow.
    let i = h more (λ e. cc) in
    (i.0, subst (λ v. StandUpTo (after_inner (seen ++ more)) (v ++ more) (standing ++ found)) (sym is) (up_to_then i.1 (up_to_more passed more)))

-- and more trees are read
pub so_far_grown : (source : List ℕ) (kept now : Reading) (seen : List Tree) (standing : List Standing) → StandSoFar kept seen standing → kept.is_whole ≡ false → (g : Grows source kept now seen) → StandSoFar now (seen ++ g.added) standing
so_far_grown source kept now seen standing h open_ended g = λ more follow.
    let i = h (g.added ++ more) (λ e. cc) in
    let all : seen ++ (g.added ++ more) ≡ (seen ++ g.added) ++ more = sym (append_assoc seen g.added more) in
    let left : window_of kept ++ (g.added ++ more) ≡ window_of now ++ more = sym (append_assoc (window_of kept) g.added more) ∙ ap (λ v. v ++ more) (sym g.window) in (
      subst (λ v. is_for_tests (before v (after_inner v)) ≡ false) all i.0,
      subst (λ v. StandUpTo (after_inner ((seen ++ g.added) ++ more)) v standing) left (subst (λ v. StandUpTo (after_inner v) (window_of kept ++ (g.added ++ more)) standing) all i.1),
    )

pub gone_next : (then r kept now : Reading) (rest : List Tree) (standing found both : List Standing) → Gone then r standing → r.is_whole ≡ false → StandUpTo (window_of r) rest found → kept.chunks ≡ r.chunks → kept.is_whole ≡ r.is_whole
    → window_of kept ≡ rest → ((source : List ℕ) (seen : List Tree) → Reads source kept seen → Grows source kept now seen) → both ≡ standing ++ found → Gone then now both
gone_next then r kept now rest standing found both h open_ended passed same_chunks same_end is grows sum = record {
  reads = λ source seen s.
      let i = h.reads source seen s in
      let g = grows source i.0 (reads_kept source r kept i.0 same_chunks same_end i.1) in
      (i.0 ++ g.added, g.reads);
  stands = λ source seen s begun.
      let i = h.stands source seen s begun in
      let g = grows source i.0 (reads_kept source r kept i.0 same_chunks same_end i.1) in
      let so_far = so_far_kept r kept i.0 rest standing found i.2 open_ended passed is in
      (i.0 ++ g.added, g.reads, subst (StandSoFar now (i.0 ++ g.added)) (sym sum) (so_far_grown source kept now i.0 (standing ++ found) so_far (same_end ∙ open_ended) g));
}

-- ---- what is found

stop_found : {ts : List Tree} {span : Span} → is_for_tests (before ts (after_inner ts)) ≡ false → StopAt (after_inner ts) span → Finds (StandInside ts) (StopInside ts) (Err (stop.At span))
stop_found other at = let inner = in_items other at in ((λ ss h. inside_excludes inner h), inner)

-- of an item of which reading stops
stops_of : (r : Reading) (seen : List Tree) (standing : List Standing) (e : Stop) → StandSoFar r seen standing → r.is_whole ≡ false → PassesItems (window_of r) (Err e) → FoundOf r seen (Err e)
stops_of r seen standing stop.Memory h open_ended p = λ more follow. tt
stops_of r seen standing (stop.At span) h open_ended p = λ more follow. let i = h more (λ e. cc) in stop_found i.0 (up_to_stops i.1 (stops_more p more))

pub found_stop : (then r : Reading) (standing : List Standing) (e : Stop) → Gone then r standing → r.is_whole ≡ false → PassesItems (window_of r) (Err e) → (source : List ℕ) (seen : List Tree) → Reads source then seen → StandSoFar then seen [] → IsFoundIn source r (Err e)
found_stop then r standing e h open_ended p source seen s begun =
    let i = h.stands source seen s begun in
    record { seen = i.0; reads = i.1; is = stops_of r i.0 standing e i.2 open_ended p }

-- of the last items of a file
nothing_follows : (ts more : List Tree) → more ≡ [] → ts ++ more ≡ ts
nothing_follows ts more e = ap (λ v. ts ++ v) e ∙ append-nil ts

ends_of : (r : Reading) (seen : List Tree) (standing : List Standing) (e : Stop) → StandSoFar r seen standing → r.is_whole ≡ true → Finds (AreItems (window_of r)) (StopAt (window_of r)) (Err e) → FoundOf r seen (Err e)
ends_of r seen standing stop.Memory h whole f = λ more follow. tt
ends_of r seen standing (stop.At span) h whole f = λ more follow.
    let i = h more follow in
    stop_found i.0 (up_to_stops i.1 (subst (λ v. StopAt v span) (sym (nothing_follows (window_of r) more (follow whole))) f.1))

pub found_end_stop : (then r : Reading) (standing : List Standing) (e : Stop) → Gone then r standing → r.is_whole ≡ true → Finds (AreItems (window_of r)) (StopAt (window_of r)) (Err e)
    → (source : List ℕ) (seen : List Tree) → Reads source then seen → StandSoFar then seen [] → IsFoundIn source r (Err e)
found_end_stop then r standing e h whole f source seen s begun =
    let i = h.stands source seen s begun in
    record { seen = i.0; reads = i.1; is = ends_of r i.0 standing e i.2 whole f }

pub found_end : (then r : Reading) (standing found both : List Standing) → Gone then r standing → r.is_whole ≡ true → AreItems (window_of r) found → both ≡ standing ++ found
    → (source : List ℕ) (seen : List Tree) → Reads source then seen → StandSoFar then seen [] → IsFoundIn source r (Ok both)
found_end then r standing found both h whole f sum source seen s begun =
    let i = h.stands source seen s begun in record {
      seen = i.0;
      reads = i.1;
      is = λ more follow.
          let at = i.2 more follow in
          let last = subst (λ v. AreItems v found) (sym (nothing_follows (window_of r) more (follow whole))) f in
          subst (StandInside (i.0 ++ more)) (sym sum) (items at.0 (up_to_items at.1 last));
    }

-- ---- inner attributes

inner_same : (r : Reading) → IsBehindInner r → (more : List Tree) → MayFollow r more → before (window_of r ++ more) (after_inner (window_of r ++ more)) ≡ before (window_of r) (after_inner (window_of r))
inner_same r behind more follow = ap (before (window_of r ++ more)) (behind more follow) ∙ before_more (window_of r) (after_inner (window_of r)) more

-- a file for tests
pub found_for_tests : (source : List ℕ) (r : Reading) (none : List Standing) → Reads source r (window_of r) → IsBehindInner r → is_for_tests (before (window_of r) (after_inner (window_of r))) ≡ true → none ≡ [] → IsFoundIn source r (Ok none)
found_for_tests source r none h behind tests is = record {
  seen = window_of r;
  reads = h;
  is = λ more follow. subst (StandInside (window_of r ++ more)) (sym is) (for_tests (ap is_for_tests (inner_same r behind more follow) ∙ tests));
}

-- and any other
pub so_far_none : (r kept : Reading) → IsBehindInner r → is_for_tests (before (window_of r) (after_inner (window_of r))) ≡ false → kept.is_whole ≡ r.is_whole → window_of kept ≡ after_inner (window_of r) → StandSoFar kept (window_of r) []
so_far_none r kept behind others same_end is = λ more follow.
    let may : MayFollow r more = λ e. follow (same_end ∙ e) in (
      ap is_for_tests (inner_same r behind more may) ∙ others,
      subst (λ v. StandUpTo (after_inner (window_of r ++ more)) v []) (behind more may ∙ ap (λ v. v ++ more) (sym is)) none_yet,
    )

pub is_found : (source : List ℕ) (r : Reading) (found : Result (List Standing) Stop) → IsFoundIn source r found → ((seen : List Tree) → Reads source r seen → ReadsToEnd source r seen) → IsFound source found
is_found source r found h ends =
    let end = ends h.seen h.reads in record {
      trees = end.trees;
      cut = end.cut;
      shallow = end.shallow;
      is = subst (λ v. Finds (StandInside v) (StopInside v) found) (sym end.are) (h.is end.more end.follow);
    }
