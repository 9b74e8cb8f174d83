-- Names in byte order.
use Rattle.std.proofs.Common.{◌≡◌, ℕ, List, Equal, nat_cmp, is_eq, sym, ap, ◌∙◌}
use Rattle.std.proofs.lemmas.Cmp.{nat_list_cmp_total, tied_itself}
use Rattle.std.proofs.lemmas.Map.Text.{is_eq-slice_cmp}
use Rattle.std.proofs.lemmas.Slice.Eq.{bytes_eq-Decides}
use Rattle.std.specs.Cmp.Lexicographic.{slice_cmp}

pub itself : (q : List ℕ) → slice_cmp nat_cmp q q ≡ Equal
itself q = tied_itself nat_list_cmp_total q

pub same_names : (k l : List ℕ) → slice_cmp nat_cmp k l ≡ Equal → k ≡ l
same_names k l is = (bytes_eq-Decides k l).0 (sym (is_eq-slice_cmp k l) ∙ ap is_eq is)
