-- What is told of declarations that name what another file has, one after another.
use Rattle.std.proofs.Common.{◌≡◌, ◌∙◌, ◌+◌, ℕ, List, [], ◌∷◌, ◌++◌, length, Option, ap, sym, append-nil, append_assoc, arith}
use Rattle.syntax.specs.Items.{DeclaredItem}
use Rattle.telling.specs.declared.told.Told.{Told}
use Rattle.prepare.specs.declared.file_items.FileItem.{FileItem}
use Rattle.file_derivation.specs.Elsewhere.{told_elsewhere, told_all_elsewhere}

-- one declaration more
pub told-one-more : (names : List (List ℕ)) (elsewhere : FileItem → Option (List ℕ)) (ds : List DeclaredItem) (from : List FileItem) (d : DeclaredItem) (i : FileItem) → length ds ≡ length from
    → told_all_elsewhere names elsewhere (ds ++ d ∷ []) (from ++ i ∷ []) ≡ told_all_elsewhere names elsewhere ds from ++ told_elsewhere names d i (elsewhere i)
told-one-more names elsewhere [] [] d i same = append-nil (told_elsewhere names d i (elsewhere i))
told-one-more names elsewhere [] (j ∷ from) d i same = absurd (omega (arith, same))
told-one-more names elsewhere (e ∷ ds) [] d i same = absurd (omega (arith, same))
told-one-more names elsewhere (e ∷ ds) (j ∷ from) d i same =
    ap (λ (v : List Told). told_elsewhere names e j (elsewhere j) ++ v) (told-one-more names elsewhere ds from d i (omega (arith, same)))
    ∙ sym (append_assoc (told_elsewhere names e j (elsewhere j)) (told_all_elsewhere names elsewhere ds from) (told_elsewhere names d i (elsewhere i)))
