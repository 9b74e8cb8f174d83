-- The trees of a source that are read.
use Rattle.std.proofs.Common.{◌≡◌, ◌∙◌, ℕ, ◌≤◌, List, [], ◌∷◌, ◌++◌, length, map, refl, ap, sym, subst, arith, append_assoc, Bool, true, false, not, Option, None, Some, is_some}
use Rattle.std.specs.Prelude.{nat_lt}
use Rattle.std.proofs.lemmas.List.{append-nil, map-append, length-map}
use Rattle.std.proofs.lemmas.Bool.{ltb-false}
use Rattle.tokens.specs.declared.token.TokenTree.{TokenTree}
use Rattle.tokens.specs.Trees.{Tree, Trees, end, ◌▸◌, tree_view, trees_view}
use Rattle.lexing.specs.declared.chunks.Chunks.{Chunks}
use Rattle.lexing.specs.Chunks.{IsReadTo, GoesOn}
use Rattle.lexing.specs.Cut.{IsCut}
use Rattle.lexing.specs.Nesting.{joined}
use Rattle.prepare.specs.declared.reading.Reading.{Reading}
use Rattle.prepare.specs.Trees.{listed}
use Rattle.prepare.specs.Attributes.{after_inner}
use Rattle.prepare.specs.Reading.{window_of, Reads, Grows, MayFollow}
use Rattle.prepare.proofs.Groups.{listed_same}
use Rattle.prepare.proofs.More.{inner_stays}

listed_joined : (ts us : Trees) → listed (joined ts us) ≡ listed ts ++ listed us
listed_joined end us = refl
listed_joined (t ▸ ts) us = ap (λ v. t ∷ v) (listed_joined ts us)

listed_chunk : (ts : Trees) (chunk : List TokenTree) → listed (joined ts (trees_view chunk)) ≡ listed ts ++ map tree_view chunk
listed_chunk ts chunk = listed_joined ts (trees_view chunk) ∙ ap (λ v. listed ts ++ v) (listed_same (map tree_view chunk))

-- what is read after the next trees were asked for
module _ (source : List ℕ) (r : Reading) (c : Chunks) (seen : List Tree) (h : Reads source r seen) (goes_on : r.is_whole ≡ false) (same : c.source ≡ r.chunks.source) where
  of_next : c.source.now ≡ source
  of_next = ap (λ s. s.now) same ∙ h.of

  pub none_reads : (chunk : Option (List TokenTree)) (window : List TokenTree) → ((trees : Trees) → IsReadTo r.chunks trees → GoesOn r.chunks c trees chunk) → chunk ≡ None → Reads source (record { chunks = c; window = window; is_whole = true }) seen
  none_reads chunk window goes is = record {
    trees = h.trees;
    of = of_next;
    are = h.are;
    shallow = h.shallow;
    goes_on = λ e. cc;
    ends = λ e. subst (λ s. IsCut s h.trees) h.of (subst (GoesOn r.chunks c h.trees) is (goes h.trees (h.goes_on goes_on)));
  }

  pub some_reads : (chunk : Option (List TokenTree)) (trees window : List TokenTree) (whole : Bool) → ((trees : Trees) → IsReadTo r.chunks trees → GoesOn r.chunks c trees chunk) → chunk ≡ Some trees → whole ≡ false
      → Reads source (record { chunks = c; window = window; is_whole = whole }) (seen ++ map tree_view trees)
  some_reads chunk trees window whole goes is open_ended =
      let read : IsReadTo c (joined h.trees (trees_view trees)) = subst (GoesOn r.chunks c h.trees) is (goes h.trees (h.goes_on goes_on)) in
      record {
        trees = joined h.trees (trees_view trees);
        of = of_next;
        are = listed_chunk h.trees trees ∙ ap (λ v. v ++ map tree_view trees) h.are;
        shallow = read.shallow;
        goes_on = λ e. read;
        ends = λ e. cc;
      }

  -- by whether there are any
  pub next_reads : (chunk : Option (List TokenTree)) (window : List TokenTree) (whole : Bool) → ((trees : Trees) → IsReadTo r.chunks trees → GoesOn r.chunks c trees chunk) → is_some chunk ≡ not whole
      → (added : List Tree) × Reads source (record { chunks = c; window = window; is_whole = whole }) (seen ++ added)
  next_reads None window true goes e = ([], subst (Reads source (record { chunks = c; window = window; is_whole = true })) (sym (append-nil seen)) (none_reads None window goes refl))
  next_reads None window false goes e = cc
  next_reads (Some trees) window true goes e = cc
  next_reads (Some trees) window false goes e = (map tree_view trees, some_reads (Some trees) trees window false goes refl refl)

-- what is read to the end of a source
pub record ReadsOn (then now : Reading) : Type 0 where
  pub whole : then.is_whole ≡ true → now.is_whole ≡ true
  pub reads : (source : List ℕ) (seen : List Tree) → Reads source then seen → (more : List Tree) × MayFollow then more × Reads source now (seen ++ more)

pub reads_next : (then r : Reading) (c : Chunks) (chunk : Option (List TokenTree)) (window : List TokenTree) (whole : Bool) → ReadsOn then r → r.is_whole ≡ false → c.source ≡ r.chunks.source
    → ((trees : Trees) → IsReadTo r.chunks trees → GoesOn r.chunks c trees chunk) → is_some chunk ≡ not whole → ReadsOn then (record { chunks = c; window = window; is_whole = whole })
reads_next then r c chunk window whole h open_ended same goes is = record {
  whole = λ e. let ended = h.whole e in cc;
  reads = λ source seen g.
      let i = h.reads source seen g in
      let n = next_reads source r c (seen ++ i.0) i.2 open_ended same chunk window whole goes is in (
        i.0 ++ n.0,
        (λ e. let ended = h.whole e in cc),
        subst (Reads source (record { chunks = c; window = window; is_whole = whole })) (append_assoc seen i.0 n.0) n.1,
      );
}

-- the trees that are not gone through grow by those that are read
pub grows_by : (source : List ℕ) (then r now : Reading) (seen : List Tree) (trees : List TokenTree) → (g : Grows source then r seen) → Reads source now ((seen ++ g.added) ++ map tree_view trees) → now.window ≡ r.window ++ trees
    → Grows source then now seen
grows_by source then r now seen trees g h is = record {
  added = g.added ++ map tree_view trees;
  reads = subst (Reads source now) (append_assoc seen g.added (map tree_view trees)) h;
  window = ap (map tree_view) is ∙ map-append tree_view r.window trees ∙ ap (λ v. v ++ map tree_view trees) g.window ∙ append_assoc (window_of then) g.added (map tree_view trees);
}

pub enough_left : (window rest : List TokenTree) → map tree_view rest ≡ after_inner (map tree_view window) → nat_lt (length rest) 3 ≡ false → (more : List Tree) → after_inner (map tree_view window ++ more) ≡ after_inner (map tree_view window) ++ more
enough_left window rest is few more =
    let three : 3 ≤ length rest = ltb-false (length rest) 3 few in
    let same = ap length is in
    inner_stays (map tree_view window) more (omega (arith, three, same, length-map rest tree_view))
