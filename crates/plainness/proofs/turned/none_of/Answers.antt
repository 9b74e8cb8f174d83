use Rattle.std.proofs.Common.{ℕ, zero, suc, ◌+◌, ◌∙◌, List, [], ◌∷◌, ◌++◌, length, ap, sym, subst}
use Rattle.std.proofs.lemmas.List.{length-append}
use Rattle.inlining.specs.Inlining.{targets_of, IsAmong}
use Rattle.plainness.proofs.turned.none_of.Goals as goal

-- one list more that has nothing
none-more : (g : List (List ℕ)) → ((n m : ℕ) → ¬ (IsAmong m (targets_of g n))) → (n m : ℕ) → ¬ (IsAmong m (targets_of (g ++ [] ∷ []) n))
none-more [] none zero m among = among
none-more [] none (suc n) m among = among
none-more (ts ∷ g) none zero m among = none zero m among
none-more (ts ∷ g) none (suc n) m among = none-more g (λ k j. none (suc k) j) n m among

pub loop-preserved : goal.loop-preserved
loop-preserved c =
    let grown = c.in_ok-push.ensures.items ∙ ap (λ (xs : List ℕ). c.loop.lists.items ++ xs ∷ []) c.new.ensures in
    record {
      many = ap length grown ∙ length-append c.loop.lists.items ([] ∷ []) ∙ ap (λ n. n + 1) c.loop.invariant.many;
      none = subst (λ (g : List (List ℕ)). (n m : ℕ) → ¬ (IsAmong m (targets_of g n))) (sym grown) (none-more c.loop.lists.items c.loop.invariant.none);
    }
