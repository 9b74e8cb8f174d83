-- How long inline paths are.
use Rattle.std.proofs.Common.{◌<◌, ◌≤◌, ℕ, zero, suc, List, [], ◌∷◌, ◌++◌, length, IsTrue, sym, ◌∙◌, arith}
use Rattle.std.proofs.lemmas.Bool.{false≢true}
use Rattle.inlining.specs.Inlining.{targets_of, IsAmong, IsPath, IsAtMost}
use Rattle.inlining.specs.Marks.{mark, marks_of}
use Rattle.inlining.proofs.Marks.{mark-none, target_marked}

-- the path begins at an instance
pub first_of_path : (g : List (List ℕ)) (d : ℕ) (ds : List ℕ) → IsPath g (d ∷ ds) → d < length g
first_of_path g d [] p = p
first_of_path g d (e ∷ ds) p = p.0

-- one instance more at the end
pub path_push : (g : List (List ℕ)) (ds : List ℕ) (d e : ℕ) → IsPath g (ds ++ d ∷ []) → e < length g → IsAmong e (targets_of g d) → IsPath g ((ds ++ d ∷ []) ++ e ∷ [])
path_push g [] d e p h i = (p, i, h)
path_push g (c ∷ []) d e p h i = (p.0, p.1, path_push g [] d e p.2 h i)
path_push g (c ∷ b ∷ ds) d e p h i = (p.0, p.1, path_push g (b ∷ ds) d e p.2 h i)

-- a path that begins with what is marked has no more instances than there were rounds
bounded : (g : List (List ℕ)) (n d : ℕ) (ds : List ℕ) → IsTrue (mark (marks_of g n) d) → IsPath g (d ∷ ds) → length (d ∷ ds) ≤ n
bounded g zero d ds m p = absurd (false≢true (sym (mark-none g d) ∙ m))
bounded g (suc n) d [] m p = omega arith
bounded g (suc n) d (e ∷ ds) m p =
    let rest = bounded g n e ds (target_marked g (marks_of g n) d e p.0 m p.1) p.2 in
    omega (arith, rest)

pub at_most_from_marks : (g : List (List ℕ)) (n most : ℕ) → n ≤ most → ((d : ℕ) → d < length g → IsTrue (mark (marks_of g n) d)) → IsAtMost most g
at_most_from_marks g n most h all [] p = omega arith
at_most_from_marks g n most h all (d ∷ ds) p =
    let within = bounded g n d ds (all d (first_of_path g d ds p)) p in
    omega (arith, within)
