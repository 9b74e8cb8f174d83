-- Texts that are made in order, and let go where they are needed no more.
use Rattle.std.proofs.Common.{ℕ, zero, suc, ◌+◌, ◌<◌, ◌≤◌, ◌⊎◌, List, [], ◌∷◌, ◌++◌, length, take, get_or, set, Bool, IsTrue, Option, Some, None, is_some, ◌≡◌, refl, ap, sym, subst, ◌∙◌, inl, inr, arith}
use Rattle.std.specs.List.{filter_map}
use Rattle.std.proofs.lemmas.Bool.{cases_eq, false≢true}
use Rattle.std.proofs.lemmas.List.{take_more, length-set, get_or-set_same, get_or-set_other}
use Rattle.std.proofs.lemmas.Option.{none-some, same_Some}
use Rattle.schema_trees.specs.declared.tree.RefLeaf.{RefLeaf}
use Rattle.schema_trees.specs.Schema.{SchemaOf, bind}
use Rattle.schema_core.specs.declared.alternatives.Alternatives.{Alternatives}
use Rattle.schema_core.specs.Form.{form_by}
use Rattle.schema_core.specs.Writes.{WritesValue}
use Rattle.open_types.specs.Open.{Open}
use Rattle.open_types.specs.Laws.{SameIsEqual, SubstitutedNone}
use Rattle.shapes.specs.Declarations.{DeclarationOf}
use Rattle.shapes.specs.InstanceShape.{IsReachable}
use Rattle.component.specs.Leaves.{LeafOf}
use Rattle.terms.specs.InstanceTerms.{instance_term}
use Rattle.inlining.specs.Inlining.{targets_of, IsAmong}
use Rattle.inlining.specs.Marks.{mark}
use Rattle.inlining.proofs.Laws.{among_cases, among-left, among-right}
use Rattle.instances.specs.Lists.{IsOneOf, number_in, instance_at, AreInstances}
use Rattle.instances.proofs.Laws.{at-one}
use Rattle.closing.specs.Closed.{put, instance_schema}
use Rattle.closing.specs.Described.{AreShallow}
use Rattle.closing.specs.Links.{targets_at, inlining_of}
use Rattle.closing.specs.Texts.{schema_if, there_of, there_at, AreTexts, IsThere, AreNeededTo, AreTargetsOf, AreTargetsTo}
use Rattle.closing.proofs.InstanceDepth.{made-in-order}
use Rattle.closing.proofs.InstanceDescribed.{target-reachable}
use Rattle.closing.proofs.InstanceNumbers.{HasNumber, with_number, found-among, of-number}
use Rattle.closing.proofs.Made.{not_next}

-- ---- lists

-- the targets at a place
pub targets-at : (g : List (List ℕ)) (n : ℕ) (ts : List ℕ) → n < length g → targets_of g n ≡ get_or g n ts
targets-at [] n ts l = absurd (omega arith)
targets-at (u ∷ g) zero ts l = refl
targets-at (u ∷ g) (suc n) ts l = targets-at g n ts (omega arith)

among_or : (n : ℕ) (ns : List ℕ) → IsAmong n ns ⊎ ¬ (IsAmong n ns)
among_or n [] = inr (λ none. none)
among_or n (m ∷ ns) = by (cases_eq n m) (among_or n ns)
  where
    by : (n ≡ m) ⊎ (n ≡ m → ⊥) → IsAmong n ns ⊎ ¬ (IsAmong n ns) → IsAmong n (m ∷ ns) ⊎ ¬ (IsAmong n (m ∷ ns))
    by (inl e) rest = inl (inl e)
    by (inr e) (inl h) = inl (inr h)
    by (inr e) (inr h) = inr (not_both e h)
      where
        not_both : (n ≡ m → ⊥) → ¬ (IsAmong n ns) → IsAmong n (m ∷ ns) → ⊥
        not_both e h (inl s) = e s
        not_both e h (inr a) = h a

-- what is among some of a list and the next one is among them, or is the next one
pub next_cases : (ds : List ℕ) (i n : ℕ) → i < length ds → IsAmong n (take (i + 1) ds) → IsAmong n (take i ds) ⊎ (n ≡ get_or ds i 0)
next_cases ds i n l among = by (among_cases n (take i ds) (get_or ds i 0 ∷ []) (subst (IsAmong n) (take_more ds i 0 l) among))
  where
    by : IsAmong n (take i ds) ⊎ IsAmong n (get_or ds i 0 ∷ []) → IsAmong n (take i ds) ⊎ (n ≡ get_or ds i 0)
    by (inl h) = inl h
    by (inr (inl e)) = inr e
    by (inr (inr none)) = absurd none

-- after a value is set at a place, each place has it or what it had
pub set-cases : {A : Type 0} (xs : List A) (p n : ℕ) (x d : A) → p < length xs → ((n ≡ p) × (get_or (set xs p x) n d ≡ x)) ⊎ ((n ≡ p → ⊥) × (get_or (set xs p x) n d ≡ get_or xs n d))
set-cases xs p n x d l = by (cases_eq n p)
  where
    by : (n ≡ p) ⊎ (n ≡ p → ⊥) → ((n ≡ p) × (get_or (set xs p x) n d ≡ x)) ⊎ ((n ≡ p → ⊥) × (get_or (set xs p x) n d ≡ get_or xs n d))
    by (inl e) = inl (e, ap (λ k. get_or (set xs p x) k d) e ∙ get_or-set_same xs p x d l)
    by (inr e) = inr (e, get_or-set_other xs p n x d e)

-- ---- the turns up to which texts are needed

-- one target more has the turn
pub raised_more : (xs ds : List ℕ) (i turn : ℕ) → i < length ds → get_or ds i 0 < length xs → ((n : ℕ) → IsAmong n (take i ds) → get_or xs n 0 ≡ turn) → (n : ℕ) → IsAmong n (take (i + 1) ds) → get_or (set xs (get_or ds i 0) turn) n 0 ≡ turn
raised_more xs ds i turn l p so_far n among = by (set-cases xs (get_or ds i 0) n turn 0 p) (next_cases ds i n l among)
  where
    after : ℕ
    after = get_or (set xs (get_or ds i 0) turn) n 0

    by : ((n ≡ get_or ds i 0) × (after ≡ turn)) ⊎ ((n ≡ get_or ds i 0 → ⊥) × (after ≡ get_or xs n 0)) → IsAmong n (take i ds) ⊎ (n ≡ get_or ds i 0) → after ≡ turn
    by (inl h) k = h.1
    by (inr h) (inl k) = h.1 ∙ so_far n k
    by (inr h) (inr k) = absurd (h.0 k)

-- the others have what they had
pub others_more : (xs old ds : List ℕ) (i turn : ℕ) → i < length ds → ((n : ℕ) → ¬ (IsAmong n (take i ds)) → get_or xs n 0 ≡ get_or old n 0) → (n : ℕ) → ¬ (IsAmong n (take (i + 1) ds)) → get_or (set xs (get_or ds i 0) turn) n 0 ≡ get_or old n 0
others_more xs old ds i turn l so_far n none =
    let other = not_next ds i n l none in
    get_or-set_other xs (get_or ds i 0) n turn 0 other.0 ∙ so_far n other.1

-- where the targets have the turn and the others what they had, each has the turn or what it had
pub raised-cases : (before after ts : List ℕ) (turn : ℕ) → ((n : ℕ) → IsAmong n ts → get_or after n 0 ≡ turn) → ((n : ℕ) → ¬ (IsAmong n ts) → get_or after n 0 ≡ get_or before n 0) → (n : ℕ) → (get_or after n 0 ≡ turn) ⊎ (get_or after n 0 ≡ get_or before n 0)
raised-cases before after ts turn targets others n = by (among_or n ts)
  where
    by : IsAmong n ts ⊎ ¬ (IsAmong n ts) → (get_or after n 0 ≡ turn) ⊎ (get_or after n 0 ≡ get_or before n 0)
    by (inl h) = inl (targets n h)
    by (inr h) = inr (others n h)

-- what was needed longer than to a turn still is, where those that changed have a later one
pub still_needed : (before after ts : List ℕ) (turn i n : ℕ) → i < turn → ((m : ℕ) → IsAmong m ts → get_or after m 0 ≡ turn) → ((m : ℕ) → ¬ (IsAmong m ts) → get_or after m 0 ≡ get_or before m 0) → i < get_or before n 0 → i < get_or after n 0
still_needed before after ts turn i n l targets others h = by (raised-cases before after ts turn targets others n)
  where
    by : (get_or after n 0 ≡ turn) ⊎ (get_or after n 0 ≡ get_or before n 0) → i < get_or after n 0
    by (inl e) = omega arith
    by (inr e) = omega arith

-- none is behind the turn
pub still_below : (before after ts : List ℕ) (turn : ℕ) → ((m : ℕ) → IsAmong m ts → get_or after m 0 ≡ turn + 1) → ((m : ℕ) → ¬ (IsAmong m ts) → get_or after m 0 ≡ get_or before m 0) → ((n : ℕ) → get_or before n 0 ≤ turn) → (n : ℕ) → get_or after n 0 ≤ turn + 1
still_below before after ts turn targets others below n = by (raised-cases before after ts (turn + 1) targets others n) (below n)
  where
    by : (get_or after n 0 ≡ turn + 1) ⊎ (get_or after n 0 ≡ get_or before n 0) → get_or before n 0 ≤ turn → get_or after n 0 ≤ turn + 1
    by (inl e) h = omega arith
    by (inr e) h = omega arith

-- the targets of one turn more are needed
pub needed_more : (g : List (List ℕ)) (order before after ts : List ℕ) (turn : ℕ) → ts ≡ targets_of g (get_or order turn 0) → ((m : ℕ) → IsAmong m ts → get_or after m 0 ≡ turn + 1) → ((m : ℕ) → ¬ (IsAmong m ts) → get_or after m 0 ≡ get_or before m 0) →
    ((i m : ℕ) → i < turn → IsAmong m (targets_of g (get_or order i 0)) → i < get_or before m 0) → (i m : ℕ) → i < turn + 1 → IsAmong m (targets_of g (get_or order i 0)) → i < get_or after m 0
needed_more g order before after ts turn is targets others so_far i m l among = by (cases_eq i turn)
  where
    by : (i ≡ turn) ⊎ (i ≡ turn → ⊥) → i < get_or after m 0
    by (inl e) = let at : get_or after m 0 ≡ turn + 1 = targets m (subst (IsAmong m) (ap (λ k. targets_of g (get_or order k 0)) e ∙ sym is) among) in omega arith
    by (inr e) = still_needed before after ts (turn + 1) i m l targets others (so_far i m (omega arith) among)

-- the targets of one component more are needed longer than to the turn
pub needed_to_more : (g : List (List ℕ)) (components before after ts : List ℕ) (i turn : ℕ) → i < length components → ts ≡ targets_of g (get_or components i 0) → ((m : ℕ) → IsAmong m ts → get_or after m 0 ≡ turn + 1) → ((m : ℕ) → ¬ (IsAmong m ts) → get_or after m 0 ≡ get_or before m 0) →
    AreNeededTo g turn (take i components) before → AreNeededTo g turn (take (i + 1) components) after
needed_to_more g components before after ts i turn l is targets others so_far n m among target = by (next_cases components i n l among)
  where
    by : IsAmong n (take i components) ⊎ (n ≡ get_or components i 0) → turn < get_or after m 0
    by (inl h) = still_needed before after ts (turn + 1) turn m (omega arith) targets others (so_far n m h target)
    by (inr e) = let at : get_or after m 0 ≡ turn + 1 = targets m (subst (IsAmong m) (ap (targets_of g) e ∙ sym is) target) in omega arith

-- what is needed to one turn more, and no longer, is a target of it
pub no_longer_more : (g : List (List ℕ)) (order before after ts : List ℕ) (turn : ℕ) → ts ≡ targets_of g (get_or order turn 0) → ((m : ℕ) → IsAmong m ts → get_or after m 0 ≡ turn + 1) → ((m : ℕ) → ¬ (IsAmong m ts) → get_or after m 0 ≡ get_or before m 0) →
    ((n : ℕ) → get_or before n 0 ≤ turn) → AreTargetsTo g order turn before → AreTargetsTo g order (turn + 1) after
no_longer_more g order before after ts turn is targets others below so_far i n l e = by (among_or n ts)
  where
    by : IsAmong n ts ⊎ ¬ (IsAmong n ts) → IsAmong n (targets_of g (get_or order i 0))
    by (inl h) =
        let at : get_or after n 0 ≡ turn + 1 = targets n h in
        let same : turn ≡ i = omega arith in
        subst (λ k. IsAmong n (targets_of g (get_or order k 0))) same (subst (IsAmong n) is h)
    by (inr h) =
        let kept : get_or after n 0 ≡ get_or before n 0 = others n h in
        let low : get_or before n 0 ≤ turn = below n in
        so_far i n (omega arith) (omega arith)

-- the same, where others are needed longer than to all turns
pub no_longer_on : (g : List (List ℕ)) (order before after ts : List ℕ) (turn : ℕ) → ((m : ℕ) → IsAmong m ts → get_or after m 0 ≡ turn + 1) → ((m : ℕ) → ¬ (IsAmong m ts) → get_or after m 0 ≡ get_or before m 0) → AreTargetsTo g order turn before → AreTargetsTo g order turn after
no_longer_on g order before after ts turn targets others so_far i n l e = by (among_or n ts)
  where
    by : IsAmong n ts ⊎ ¬ (IsAmong n ts) → IsAmong n (targets_of g (get_or order i 0))
    by (inl h) = let at : get_or after n 0 ≡ turn + 1 = targets n h in absurd (omega arith)
    by (inr h) = let kept : get_or after n 0 ≡ get_or before n 0 = others n h in so_far i n l (omega arith)

-- what is needed longer than to all turns is a target of a component, or of one more
pub by_components_more : (g : List (List ℕ)) (components before after ts : List ℕ) (i turn : ℕ) → i < length components → ts ≡ targets_of g (get_or components i 0) → ((m : ℕ) → IsAmong m ts → get_or after m 0 ≡ turn + 1) → ((m : ℕ) → ¬ (IsAmong m ts) → get_or after m 0 ≡ get_or before m 0) →
    AreTargetsOf g turn (take i components) before → AreTargetsOf g turn (take (i + 1) components) after
by_components_more g components before after ts i turn l is targets others so_far n late = by (among_or n ts)
  where
    p : ℕ
    p = get_or components i 0

    more : (k : ℕ) → IsAmong k (take i components ++ p ∷ []) → IsAmong k (take (i + 1) components)
    more k h = subst (IsAmong k) (sym (take_more components i 0 l)) h

    by : IsAmong n ts ⊎ ¬ (IsAmong n ts) → (c : ℕ) × IsAmong c (take (i + 1) components) × IsAmong n (targets_of g c)
    by (inl h) = (p, more p (among-right p (take i components) (p ∷ []) (inl refl)), subst (IsAmong n) is h)
    by (inr h) =
        let kept : get_or after n 0 ≡ get_or before n 0 = others n h in
        let c = so_far n (omega arith) in
        (c.0, more c.0 (among-left c.0 (take i components) (p ∷ []) c.1), c.2)

-- ---- texts that are let go

-- the text stays, or is let go where the turn has come
abbrev pub StaysOr : List (Option (List ℕ)) → List (Option (List ℕ)) → List ℕ → ℕ → ℕ → Type 0
StaysOr before after until turn n = (get_or after n None ≡ get_or before n None) ⊎ ((get_or after n None ≡ None) × (get_or until n 0 ≤ turn))

-- of these targets those that are done have no text, and each has the text that it had, or is done and has none
pub record AreLetGo (before made : List (Option (List ℕ))) (until targets : List ℕ) (turn : ℕ) : Type 0 where
  pub many : length made ≡ length before
  pub done : (n : ℕ) → IsAmong n targets → get_or until n 0 ≤ turn → get_or made n None ≡ None
  pub others : (n : ℕ) → StaysOr before made until turn n

pub let_go_none : (made : List (Option (List ℕ))) (until : List ℕ) (turn : ℕ) → AreLetGo made made until [] turn
let_go_none made until turn = record { many = refl; done = λ n none late. absurd none; others = λ n. inl refl }

-- one target more is let go
pub let_go_more : (before made after : List (Option (List ℕ))) (until ds : List ℕ) (i turn : ℕ) → i < length ds → get_or ds i 0 < length made → get_or until (get_or ds i 0) 0 ≤ turn → after ≡ set made (get_or ds i 0) None → AreLetGo before made until (take i ds) turn →
    AreLetGo before after until (take (i + 1) ds) turn
let_go_more before made after until ds i turn l here late is h =
    subst (λ xs. AreLetGo before xs until (take (i + 1) ds) turn) (sym is) (record { many = length-set made p None ∙ h.many; done = done; others = λ n. others n (set-cases made p n None None here) (h.others n) })
  where
    p : ℕ
    p = get_or ds i 0

    now : ℕ → Option (List ℕ)
    now n = get_or (set made p None) n None

    Cases : ℕ → Type 0
    Cases n = ((n ≡ p) × (now n ≡ None)) ⊎ ((n ≡ p → ⊥) × (now n ≡ get_or made n None))

    done : (n : ℕ) → IsAmong n (take (i + 1) ds) → get_or until n 0 ≤ turn → now n ≡ None
    done n among past = split (set-cases made p n None None here) (next_cases ds i n l among)
      where
        split : Cases n → IsAmong n (take i ds) ⊎ (n ≡ p) → now n ≡ None
        split (inl c) k = c.1
        split (inr c) (inl k) = c.1 ∙ h.done n k past
        split (inr c) (inr k) = absurd (c.0 k)

    others : (n : ℕ) → Cases n → StaysOr before made until turn n → StaysOr before (set made p None) until turn n
    others n (inl c) k = inr (c.1, subst (λ m. get_or until m 0 ≤ turn) (sym c.0) late)
    others n (inr c) (inl k) = inl (c.1 ∙ k)
    others n (inr c) (inr k) = inr (c.1 ∙ k.0, k.1)

-- one that is needed longer is passed
pub let_go_over : (before made : List (Option (List ℕ))) (until ds : List ℕ) (i turn : ℕ) → i < length ds → turn < get_or until (get_or ds i 0) 0 → AreLetGo before made until (take i ds) turn → AreLetGo before made until (take (i + 1) ds) turn
let_go_over before made until ds i turn l early h = record { many = h.many; done = done; others = h.others }
  where
    done : (n : ℕ) → IsAmong n (take (i + 1) ds) → get_or until n 0 ≤ turn → get_or made n None ≡ None
    done n among late = by (next_cases ds i n l among)
      where
        by : IsAmong n (take i ds) ⊎ (n ≡ get_or ds i 0) → get_or made n None ≡ None
        by (inl k) = h.done n k late
        by (inr k) = let same : get_or until n 0 ≡ get_or until (get_or ds i 0) 0 = ap (λ m. get_or until m 0) k in absurd (omega arith)

-- ---- texts that are there

pub there-schema : (text : Option (List ℕ)) (s : SchemaOf RefLeaf) → IsTrue (is_some text) → schema_if text s ≡ s
there-schema None s h = absurd (false≢true h)
there-schema (Some text) s h = refl

-- the texts of these instances, where they are marked and needed longer than to the turn, are there
abbrev pub AreKept : List Bool → List ℕ → List (Option (List ℕ)) → List ℕ → ℕ → Type 0
AreKept marks until made done turn = (n : ℕ) → IsAmong n done → IsTrue (mark marks n) → turn < get_or until n 0 → IsThere made n

-- one text more
pub kept_more : (marks : List Bool) (until : List ℕ) (made : List (Option (List ℕ))) (order : List ℕ) (i : ℕ) (text : List ℕ) → i < length order → get_or order i 0 < length made → AreKept marks until made (take i order) i →
    AreKept marks until (set made (get_or order i 0) (Some text)) (take (i + 1) order) i
kept_more marks until made order i text l p so_far n among marked late = by (set-cases made (get_or order i 0) n (Some text) None p) (next_cases order i n l among)
  where
    after : Option (List ℕ)
    after = get_or (set made (get_or order i 0) (Some text)) n None

    by : ((n ≡ get_or order i 0) × (after ≡ Some text)) ⊎ ((n ≡ get_or order i 0 → ⊥) × (after ≡ get_or made n None)) → IsAmong n (take i order) ⊎ (n ≡ get_or order i 0) → IsTrue (is_some after)
    by (inl h) k = subst (λ o. IsTrue (is_some o)) (sym h.1) refl
    by (inr h) (inl k) = subst (λ o. IsTrue (is_some o)) (sym h.1) (so_far n k marked late)
    by (inr h) (inr k) = absurd (h.0 k)

-- one that is not marked, or is needed nowhere, is passed
pub kept_over : (marks : List Bool) (until : List ℕ) (made : List (Option (List ℕ))) (order : List ℕ) (i : ℕ) → i < length order → (IsTrue (mark marks (get_or order i 0)) → get_or until (get_or order i 0) 0 ≤ 0) → AreKept marks until made (take i order) i →
    AreKept marks until made (take (i + 1) order) i
kept_over marks until made order i l passed so_far n among marked late = by (next_cases order i n l among)
  where
    by : IsAmong n (take i order) ⊎ (n ≡ get_or order i 0) → IsThere made n
    by (inl k) = so_far n k marked late
    by (inr k) =
        let none : get_or until (get_or order i 0) 0 ≤ 0 = passed (subst (λ m. IsTrue (mark marks m)) k marked) in
        let same : get_or until n 0 ≡ get_or until (get_or order i 0) 0 = ap (λ m. get_or until m 0) k in
        absurd (omega arith)

-- those that are still needed are still there
pub kept_on : (marks : List Bool) (until : List ℕ) (made after : List (Option (List ℕ))) (done : List ℕ) (turn : ℕ) → ((n : ℕ) → StaysOr made after until (turn + 1) n) → AreKept marks until made done turn → AreKept marks until after done (turn + 1)
kept_on marks until made after done turn stays so_far n among marked late = by (stays n)
  where
    by : StaysOr made after until (turn + 1) n → IsThere after n
    by (inl e) = subst (λ o. IsTrue (is_some o)) (sym e) (so_far n among marked (omega arith))
    by (inr h) = absurd (omega (arith, h.1))

module _ (ss : List DeclarationOf) (is : List Open) (by : Alternatives) where
  -- no texts
  pub texts_none : (made : List (Option (List ℕ))) → ((n : ℕ) → get_or made n None ≡ None) → AreTexts ss is by made
  texts_none made none n text e = absurd (none-some text (sym (none n) ∙ e))

  -- one text more
  pub texts_more : (made : List (Option (List ℕ))) (p : ℕ) (text : List ℕ) → p < length made → WritesValue (form_by by (instance_schema ss (instance_at is p))) [] text → AreTexts ss is by made → AreTexts ss is by (set made p (Some text))
  texts_more made p text l new so_far n other e = split (set-cases made p n (Some text) None l)
    where
      after : Option (List ℕ)
      after = get_or (set made p (Some text)) n None

      split : ((n ≡ p) × (after ≡ Some text)) ⊎ ((n ≡ p → ⊥) × (after ≡ get_or made n None)) → WritesValue (form_by by (instance_schema ss (instance_at is n))) [] other
      split (inl h) =
          subst (λ m. WritesValue (form_by by (instance_schema ss (instance_at is m))) [] other) (sym h.0)
          (subst (WritesValue (form_by by (instance_schema ss (instance_at is p))) []) (same_Some text other (sym h.1 ∙ e)) new)
      split (inr h) = so_far n other (sym h.1 ∙ e)

  -- those that stay are right
  pub texts_on : (made after : List (Option (List ℕ))) (until : List ℕ) (turn : ℕ) → ((n : ℕ) → StaysOr made after until turn n) → AreTexts ss is by made → AreTexts ss is by after
  texts_on made after until turn stays so_far n text e = split (stays n)
    where
      split : StaysOr made after until turn n → WritesValue (form_by by (instance_schema ss (instance_at is n))) [] text
      split (inl h) = so_far n text (sym h ∙ e)
      split (inr h) = absurd (none-some text (sym h.0 ∙ e))

-- what is among the first of a list is among more of it
among-first : (ds : List ℕ) (k i p : ℕ) → k ≤ i → IsAmong p (take k ds) → IsAmong p (take i ds)
among-first ds zero i p l h = absurd h
among-first [] (suc k) i p l h = absurd h
among-first (d ∷ ds) (suc k) zero p l h = absurd (omega arith)
among-first (d ∷ ds) (suc k) (suc i) p l (inl e) = inl e
among-first (d ∷ ds) (suc k) (suc i) p l (inr h) = inr (among-first ds k i p (omega arith) h)

-- There are as many places of texts as instances; each text that is there is right, and is needed longer than to the turn; and those of these instances are there where they are marked and needed longer.
pub record AreMadeTo (ss : List DeclarationOf) (is : List Open) (by : Alternatives) (marks : List Bool) (until : List ℕ) (made : List (Option (List ℕ))) (done : List ℕ) (turn : ℕ) : Type 0 where
  pub many : length made ≡ length is
  pub texts : AreTexts ss is by made
  pub kept : AreKept marks until made done turn
  pub needed : (n : ℕ) → IsThere made n → turn < get_or until n 0

module _ (ss : List DeclarationOf) (is : List Open) (by : Alternatives) (marks : List Bool) (until order : List ℕ) (i : ℕ) where
  -- one text more
  pub made_more : (made after : List (Option (List ℕ))) (text : List ℕ) → i < length order → get_or order i 0 < length is → i < get_or until (get_or order i 0) 0 → WritesValue (form_by by (instance_schema ss (instance_at is (get_or order i 0)))) [] text → after ≡ set made (get_or order i 0) (Some text) →
      AreMadeTo ss is by marks until made (take i order) i → AreMadeTo ss is by marks until after (take (i + 1) order) i
  made_more made after text l here late right is_set h =
      let within : get_or order i 0 < length made = subst (λ n. get_or order i 0 < n) (sym h.many) here in
      subst (λ xs. AreMadeTo ss is by marks until xs (take (i + 1) order) i) (sym is_set) (record {
        many = length-set made (get_or order i 0) (Some text) ∙ h.many;
        texts = texts_more ss is by made (get_or order i 0) text within right h.texts;
        kept = kept_more marks until made order i text l within h.kept;
        needed = λ n there. needed n (set-cases made (get_or order i 0) n (Some text) None within) there;
      })
    where
      needed : (n : ℕ) → ((n ≡ get_or order i 0) × (get_or (set made (get_or order i 0) (Some text)) n None ≡ Some text)) ⊎ ((n ≡ get_or order i 0 → ⊥) × (get_or (set made (get_or order i 0) (Some text)) n None ≡ get_or made n None)) →
          IsThere (set made (get_or order i 0) (Some text)) n → i < get_or until n 0
      needed n (inl c) there = subst (λ m. i < get_or until m 0) (sym c.0) late
      needed n (inr c) there = h.needed n (subst (λ o. IsTrue (is_some o)) c.1 there)

  -- one that is not marked, or is needed nowhere, is passed
  pub made_over : (made after : List (Option (List ℕ))) → i < length order → (IsTrue (mark marks (get_or order i 0)) → get_or until (get_or order i 0) 0 ≤ 0) → after ≡ made →
      AreMadeTo ss is by marks until made (take i order) i → AreMadeTo ss is by marks until after (take (i + 1) order) i
  made_over made after l passed is_same h = subst (λ xs. AreMadeTo ss is by marks until xs (take (i + 1) order) i) (sym is_same) (record { many = h.many; texts = h.texts; kept = kept_over marks until made order i l passed h.kept; needed = h.needed })

  -- the turn has come
  pub made_on : (g : List (List ℕ)) (made after : List (Option (List ℕ))) (done ts : List ℕ) → i < length order → ts ≡ targets_of g (get_or order i 0) → AreTargetsTo g order (length order) until → AreLetGo made after until ts (i + 1) → AreMadeTo ss is by marks until made done i →
      AreMadeTo ss is by marks until after done (i + 1)
  made_on g made after done ts l is_ts no_longer gone h =
      record {
        many = gone.many ∙ h.many;
        texts = texts_on ss is by made after until (i + 1) gone.others h.texts;
        kept = kept_on marks until made after done i gone.others h.kept;
        needed = λ n there. needed n there (gone.others n) (cases_eq (get_or until n 0) (i + 1));
      }
    where
      needed : (n : ℕ) → IsThere after n → StaysOr made after until (i + 1) n → (get_or until n 0 ≡ i + 1) ⊎ (get_or until n 0 ≡ i + 1 → ⊥) → i + 1 < get_or until n 0
      needed n there (inl stays) (inr other) = let late : i < get_or until n 0 = h.needed n (subst (λ o. IsTrue (is_some o)) stays there) in omega arith
      needed n there (inl stays) (inl at) = absurd (false≢true (subst (λ o. IsTrue (is_some o)) (gone.done n (subst (IsAmong n) (sym is_ts) (no_longer i n l at)) (omega arith)) there))
      needed n there (inr let_go) split = absurd (false≢true (subst (λ o. IsTrue (is_some o)) let_go.0 there))

  -- an instance that is a target at some turn is needed longer than to its own
  pub needed_later : (g : List (List ℕ)) → i < length order → ¬ (IsAmong (get_or order i 0) (take i order)) → AreTargetsTo g order (length order) until → ((k : ℕ) → k < length order → (t : ℕ) → IsAmong t (targets_of g (get_or order k 0)) → IsAmong t (take k order)) →
      0 < get_or until (get_or order i 0) 0 → i < get_or until (get_or order i 0) 0
  needed_later g l fresh no_longer stands some = split (get_or until p 0) refl (below-or (get_or until p 0) i)
    where
      p : ℕ
      p = get_or order i 0

      below-or : (a b : ℕ) → (a ≤ b) ⊎ (b < a)
      below-or zero b = inl (omega arith)
      below-or (suc a) zero = inr (omega arith)
      below-or (suc a) (suc b) = again (below-or a b)
        where
          again : (a ≤ b) ⊎ (b < a) → (suc a ≤ suc b) ⊎ (suc b < suc a)
          again (inl h) = inl (omega arith)
          again (inr h) = inr (omega arith)

      split : (u : ℕ) → get_or until p 0 ≡ u → (get_or until p 0 ≤ i) ⊎ (i < get_or until p 0) → i < get_or until p 0
      split u e (inr h) = h
      split zero e (inl h) = absurd (omega arith)
      split (suc k) e (inl h) = absurd (fresh (among-first order k i p (omega arith) (stands k (omega arith) p (no_longer k p (omega arith) (e ∙ omega arith)))))

-- ---- the schema that is put together

module _ (same : SameIsEqual) (none : SubstitutedNone) (ss : List DeclarationOf) (is : List Open) (are : AreInstances ss is) (shallow : AreShallow ss) where
  abbrev row : Open → List ℕ
  row t = filter_map (number_in is) (targets_at ss t)

  -- where the texts of its targets are there, the term of an instance is its schema
  pub put_there : (made : List (Option (List ℕ))) (p : ℕ) → p < length is → ((m : ℕ) → IsAmong m (targets_of (inlining_of ss is) p) → IsThere made m) →
      bind (put ss (there_at ss is made)) (instance_term ss (instance_at is p)) ≡ instance_schema ss (instance_at is p)
  put_there made p l all = made-in-order ss shallow t reached (there_at ss is made) each
    where
      t : Open
      t = instance_at is p

      reached : IsReachable ss t
      reached = are.reached t (at-one is p l)

      each : (u : Open) → IsOneOf u (targets_at ss t) → there_at ss is made u ≡ instance_schema ss u
      each u o =
          let n : (k : ℕ) × HasNumber is u k = with_number same is u (are.all u (target-reachable none ss t u reached o)) in
          let among : IsAmong n.0 (targets_of (inlining_of ss is) p) = subst (IsAmong n.0) (sym (of-number row is p l)) (found-among (number_in is) (targets_at ss t) u n.0 o n.1.found) in
          ap (there_of ss is made) n.1.found ∙ there-schema (get_or made n.0 None) (instance_schema ss (instance_at is n.0)) (all n.0 among) ∙ ap (instance_schema ss) n.1.is_at

  -- the same of the list as it is lent, and of a term that is the instance's
  pub put_is : (made now : List (Option (List ℕ))) (p : ℕ) (term : SchemaOf LeafOf) → p < length is → now ≡ made → term ≡ instance_term ss (instance_at is p) → ((m : ℕ) → IsAmong m (targets_of (inlining_of ss is) p) → IsThere made m) →
      bind (put ss (there_at ss is now)) term ≡ instance_schema ss (instance_at is p)
  put_is made now p term l is_made is_term all = ap (λ xs. bind (put ss (there_at ss is xs)) term) is_made ∙ ap (bind (put ss (there_at ss is made))) is_term ∙ put_there made p l all
