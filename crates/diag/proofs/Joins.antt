-- Diagnostics that are joined one after the other.
use Rattle.std.proofs.Common.{◌≡◌, ◌∙◌, ◌++◌, [], ◌∷◌, List, Some, ap, sym, append-nil, append_assoc, unwrap_or}
use Rattle.std.proofs.lemmas.Grind.{flat_map-append}
use Rattle.std.specs.List.{flat_map}
use Rattle.diag.specs.declared.diagnostics.DiangosticsInner.{DiangosticsInner}
use Rattle.diag.specs.Diagnostics.{joined_of}

-- the entries of all, and one part more
flat_map-push : (parts : List (List DiangosticsInner)) (part : List DiangosticsInner)
    → flat_map (λ entries. entries) (parts ++ part ∷ []) ≡ flat_map (λ entries. entries) parts ++ part
flat_map-push parts part =
    flat_map-append (λ entries. entries) parts (part ∷ []) ∙ ap (λ entries. flat_map (λ es. es) parts ++ entries) (append-nil part)

pub joined_of-push : (parts : List (List DiangosticsInner)) (part : List DiangosticsInner)
    → joined_of (parts ++ part ∷ []) ≡ Some (unwrap_or (joined_of parts) [] ++ part)
joined_of-push [] part = ap (λ entries. Some entries) (append-nil part)
joined_of-push (first ∷ parts) part =
    ap (λ entries. Some entries) (ap (λ entries. first ++ entries) (flat_map-push parts part) ∙ sym (append_assoc first (flat_map (λ es. es) parts) part))
