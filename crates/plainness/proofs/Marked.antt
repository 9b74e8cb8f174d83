-- Which instances are plain, by the numbers that have no origin.
use Rattle.std.proofs.Common.{◌≡◌, ◌<◌, ℕ, List, [], ◌∷◌, ◌++◌, length, take, get_or, Option, Some, None, is_some, IsTrue, refl, ap, sym, ◌∙◌, subst}
use Rattle.std.proofs.lemmas.Bool.{false≢true}
use Rattle.std.proofs.lemmas.List.{length-map, get_or-map}
use Rattle.open_types.specs.Open.{Open, unit}
use Rattle.open_types.specs.Instances.{StandsInOne, declared_place}
use Rattle.open_types.specs.Laws.{SameIsEqual}
use Rattle.shapes.specs.Declarations.{DeclarationOf}
use Rattle.shapes.specs.InstanceNames.{instance_name}
use Rattle.shapes.specs.Instances.{body_at, places_at}
use Rattle.shapes.specs.InstanceShape.{Reaches, itself, through_place, IsPlain}
use Rattle.shapes.specs.Plain.{IsPlainBody}
use Rattle.instances.specs.Lists.{AreInstances, instance_at}
use Rattle.instances.specs.Names.{instance_names}
use Rattle.plainness.specs.Edges.{edges_of, obstacles_of, IsHindered, LeadsTo, leads_here, leads_on, AreOrigins, IsReasonAt}
use Rattle.plainness.specs.Laws.{ObstaclesAreExact}
use Rattle.plainness.specs.Obstacles.{body_obstacle}
use Rattle.plainness.specs.Unplain.{IsReason, IsUnplain, AreUnplain, no_instances, one_plain, one_unplain}
use Rattle.plainness.specs.declared.unplain.Obstacle.{Obstacle}
use Rattle.plainness.specs.declared.unplain.Reason.{Reason}
use Rattle.plainness.specs.declared.unplain.Reason.TheVariants.{Body, Reaches as ReachesOne}
use Rattle.plainness.specs.declared.unplain.Unplain.{Unplain}
use Rattle.plainness.proofs.Leading.{hindered-below}
use Rattle.plainness.proofs.Numbered.{edge-stands, stands-edge}

-- ---- one instance more

pub plain-more : (ss : List DeclarationOf) (ts : List Open) (us : List Unplain) (t : Open) → AreUnplain ss ts us → IsPlain ss t → AreUnplain ss (ts ++ t ∷ []) us
plain-more ss ts us t no_instances p = one_plain p no_instances
plain-more ss (s ∷ ts) us t (one_plain q h) p = one_plain q (plain-more ss ts us t h p)
plain-more ss (s ∷ ts) (v ∷ us) t (one_unplain q h) p = one_unplain q (plain-more ss ts us t h p)

pub unplain-more : (ss : List DeclarationOf) (ts : List Open) (us : List Unplain) (t : Open) (u : Unplain) → AreUnplain ss ts us → IsUnplain ss t u → AreUnplain ss (ts ++ t ∷ []) (us ++ u ∷ [])
unplain-more ss ts us t u no_instances p = one_unplain p no_instances
unplain-more ss (s ∷ ts) us t u (one_plain q h) p = one_plain q (unplain-more ss ts us t u h p)
unplain-more ss (s ∷ ts) (v ∷ us) t u (one_unplain q h) p = one_unplain q (unplain-more ss ts us t u h p)

pub none-yet : (ss : List DeclarationOf) (ts : List Open) → AreUnplain ss (take 0 ts) []
none-yet ss [] = no_instances
none-yet ss (t ∷ ts) = no_instances

-- ---- what is plain

none-of : (o : Option Obstacle) → ¬ (IsTrue (is_some o)) → o ≡ None
none-of None h = refl
none-of (Some x) h = absurd (h refl)

module _ (same : SameIsEqual) (exact : ObstaclesAreExact) (ss : List DeclarationOf) (is : List Open) (are : AreInstances ss is) where
  abbrev edges : List (List ℕ)
  edges = edges_of ss is

  abbrev obstacles : List (Option Obstacle)
  obstacles = obstacles_of ss is

  own-obstacle : (n : ℕ) → n < length is → get_or obstacles n None ≡ body_obstacle ss (body_at ss (instance_at is n))
  own-obstacle n l = get_or-map (λ t. body_obstacle ss (body_at ss t)) is n unit None l

  hindered-within : (n : ℕ) → IsHindered obstacles n → n < length is
  hindered-within n h = subst (λ k. n < k) (length-map is (λ t. body_obstacle ss (body_at ss t))) (hindered-below obstacles n h)

  -- what edges lead to is reached
  leading-reached : (n m : ℕ) → LeadsTo edges n m → Reaches ss (instance_at is n) (instance_at is m)
  leading-reached n m (leads_here k) = itself (instance_at is k)
  leading-reached n m (leads_on i k j a l) = through_place (instance_at is i) (instance_at is k) (instance_at is j) (edge-stands same ss is i k a) (leading-reached k j l)

  hindered-body : (n : ℕ) → IsHindered obstacles n → ¬ (body_obstacle ss (body_at ss (instance_at is n)) ≡ None)
  hindered-body n h none = false≢true (sym (ap is_some (own-obstacle n (hindered-within n h) ∙ none)) ∙ h)

  -- from where edges lead to something in the way is not plain
  leading-unplain : (n m : ℕ) → LeadsTo edges n m → IsHindered obstacles m → ¬ (IsPlain ss (instance_at is n))
  leading-unplain n m l h plain = hindered-body m h ((exact ss (body_at ss (instance_at is m))).1 (plain (instance_at is m) (leading-reached n m l)))

  plain-body : (t w : Open) → Reaches ss t w → (n : ℕ) → n < length is → instance_at is n ≡ t → ((m : ℕ) → LeadsTo edges n m → ¬ (IsHindered obstacles m)) → IsPlainBody ss (body_at ss w)
  plain-body t w (itself v) n l e not =
      let none : body_obstacle ss (body_at ss v) ≡ None = ap (λ u. body_obstacle ss (body_at ss u)) (sym e) ∙ sym (own-obstacle n l) ∙ none-of (get_or obstacles n None) (λ h. not n (leads_here n) h) in
      (exact ss (body_at ss v)).0 none
  plain-body t w (through_place v u x s r) n l e not =
      let m = stands-edge same ss is are n l u (subst (λ p. StandsInOne u (places_at ss p)) (sym e) s) in
      plain-body u x r m.0 m.2 m.3 (λ k h. not k (leads_on n m.0 k m.1 h))

  -- ---- what has an origin

  module _ (g : List (List ℕ)) (os : List (Option Obstacle)) (origins : List (Option ℕ)) (names : List (List ℕ)) (are_edges : g ≡ edges) (are_obstacles : os ≡ obstacles) (from : AreOrigins g os origins) (named : names ≡ instance_names ss is) where
    own-origins : AreOrigins edges obstacles origins
    own-origins = subst (λ xs. AreOrigins edges xs origins) are_obstacles (subst (λ xs. AreOrigins xs os origins) are_edges from)

    own-name : (n : ℕ) → n < length is → get_or names n [] ≡ instance_name ss (instance_at is n)
    own-name n l = ap (λ ns. get_or ns n []) named ∙ get_or-map (instance_name ss) is n unit [] l

    is-reason : (n : ℕ) (reason : Reason) → n < length is → IsReasonAt g os names n reason → IsReason ss (instance_at is n) reason
    is-reason n (Body obstacle) l e = sym (ap (λ xs. get_or xs n None) are_obstacles ∙ own-obstacle n l) ∙ e
    is-reason n (ReachesOne name) l h =
        let m = h.1 in
        let none = sym (ap (λ xs. get_or xs n None) are_obstacles ∙ own-obstacle n l) ∙ h.0 in
        let leads = subst (λ xs. LeadsTo xs n m) are_edges h.2 in
        let hindered = subst (λ xs. IsHindered xs m) are_obstacles h.3 in
        (none, instance_at is m, leading-reached n m leads, hindered-body m hindered, h.4 ∙ own-name m (hindered-within m hindered))

    pub plain-at : (n : ℕ) → n < length is → get_or origins n None ≡ None → IsPlain ss (instance_at is n)
    plain-at n l none w r = plain-body (instance_at is n) w r n l refl (λ m. own-origins.none n m none)

    pub unplain-at : (n m : ℕ) (u : Unplain) → n < length is → get_or origins n None ≡ Some m → u.declaration ≡ declared_place (instance_at is n) → u.name ≡ get_or names n [] → IsReasonAt g os names n u.reason → IsUnplain ss (instance_at is n) u
    unplain-at n m u l some declaration name reason =
        let led = own-origins.led.each n m some in
        record {
          not_plain = leading-unplain n m led.0 led.1;
          declaration = declaration;
          name = name ∙ own-name n l;
          reason = is-reason n u.reason l reason;
        }
