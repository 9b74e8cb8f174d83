-- What follows an item is past it, and a module holds less than it stands in.
use Rattle.std.proofs.Common.{◌≡◌, ℕ, ◌<◌, List, [], ◌∷◌, refl, ap, sym, subst, arith, inl, inr, Bool, true, false, cond, Option, None, Some, is_some}
use Rattle.std.specs.Prelude.{codes}
use Rattle.tokens.specs.Trees.{Tree, token, group, Trees, end, ◌▸◌, trees_of, depth, depth_of}
use Rattle.written_types.specs.declared.written.Ident.{Ident}
use Rattle.texts.proofs.Laws.{mapped}
use Rattle.prepare.specs.declared.kind.Kind.{Kind}
use Rattle.prepare.specs.declared.kind.Kind.TheVariants as kinds
use Rattle.prepare.specs.Trees.{listed, word, is_word, is_sign, is_curly, is_group, is_path_part, inside, before, but_last}
use Rattle.prepare.specs.Attributes.{is_scope, after_scope, after_visibility, after_attributes, is_for_tests}
use Rattle.prepare.specs.declared.previous.Behind.{Behind}
use Rattle.prepare.specs.declared.previous.Behind.TheVariants.{Other}
use Rattle.prepare.specs.Ends.{is_declaration_word, behind, after_semicolon, begins_with_name, after_mut, after_line, is_end, angles, after_block, after_path, after_name, semicolon_at, after_group, behind_path, after_call}
use Rattle.prepare.specs.Forms.{Form, declares, implements, holds, names, imports, passes, Found, ending, ident, named_or_none, declared_at, declaration_at, held_at, module_at, alias_by, alias_of, form_of, kind_at, form_at}
use Rattle.prepare.specs.Heads.{outside, Implemented, implemented}
use Rattle.prepare.specs.Items.{Item, passed, written_by, item_of, unless_for_tests, item_from, item_at}
use Rattle.prepare.specs.Items as item
use Rattle.prepare.proofs.Behind.{IsBehind, same, later, IsPast, past, weakly, then_behind, past_behind, depth_behind, GoesPast, some_same, either, not_none, first_past}
use Rattle.prepare.proofs.Repeated.{attributes_behind}

-- ---- ends
semicolon_past : GoesPast after_semicolon
semicolon_past [] rest e = not_none e
semicolon_past (t ∷ ts) rest e = elim (either (is_declaration_word t) e) [
  | inl h ↦ not_none h
  | inr g ↦ elim (either (is_sign (codes ";") t) g) [ inl h ↦ first_past h | inr h ↦ past (weakly (semicolon_past ts rest h)) ]
]

line_past : GoesPast after_line
line_past [] rest e = not_none e
line_past (t ∷ ts) rest e = elim (either (begins_with_name (after_mut ts)) e) [ inl h ↦ past (weakly (semicolon_past ts rest h)) | inr h ↦ not_none h ]

block_past : (was : Behind) (open_ones : ℕ) → GoesPast (after_block was open_ones)
unfolding after_block
block_past was n [] rest e = not_none e
block_past was n (t ∷ ts) rest e = elim (either (is_declaration_word t) e) [
  | inl h ↦ not_none h
  | inr g ↦ elim (either (is_end was n t) g) [ inl h ↦ first_past h | inr h ↦ past (weakly (block_past (behind was t) (angles was n t) ts rest h)) ]
]

behind_if : (b : Bool) {x y ts : List Tree} → IsBehind x ts → IsBehind y ts → IsBehind (cond b x y) ts
behind_if true h g = h
behind_if false h g = g

path_behind : (ts : List Tree) → IsBehind (after_path ts) ts
path_behind [] = same
path_behind (t ∷ ts) = behind_if (is_path_part t) (later (path_behind ts)) same

name_behind : (ts : List Tree) → IsBehind (after_name ts) ts
name_behind [] = same
name_behind (t ∷ ts) = behind_if (is_some (word t)) (later same) same

one_past : GoesPast semicolon_at
one_past [] rest e = not_none e
one_past (t ∷ ts) rest e = elim (either (is_sign (codes ";") t) e) [ inl h ↦ first_past h | inr h ↦ not_none h ]

group_past : GoesPast after_group
group_past [] rest e = not_none e
group_past (t ∷ ts) rest e = elim (either (is_curly t) e) [
  | inl h ↦ first_past h
  | inr h ↦ elim (either (is_group t) h) [ inl g ↦ past (weakly (one_past ts rest g)) | inr g ↦ not_none g ]
]

bang_past : GoesPast behind_path
bang_past [] rest e = not_none e
bang_past (t ∷ ts) rest e = elim (either (is_sign (codes "!") t) e) [
  | inl h ↦ past (weakly (past_behind (group_past (after_name ts) rest h) (name_behind ts)))
  | inr h ↦ not_none h
]

call_past : GoesPast after_call
call_past [] rest e = not_none e
call_past (t ∷ ts) rest e = elim (either (is_path_part t) e) [
  | inl h ↦ past (weakly (past_behind (bang_past (after_path ts) rest h) (path_behind ts)))
  | inr h ↦ not_none h
]

scope_behind : (ts : List Tree) → IsBehind (after_scope ts) ts
scope_behind [] = same
scope_behind (t ∷ ts) = behind_if (is_scope t) (later same) same

pub visibility_behind : (ts : List Tree) → IsBehind (after_visibility ts) ts
visibility_behind [] = same
visibility_behind (t ∷ ts) = behind_if (is_word (codes "pub") t) (later (scope_behind ts)) same

-- ---- forms

-- the tree is one of these
pub data IsIn (t : Tree) : List Tree → Type 0 where
  here : {ts : List Tree} → IsIn t (t ∷ ts)
  further : {u : Tree} {ts : List Tree} → IsIn t ts → IsIn t (u ∷ ts)

in_behind : {t : Tree} {rest ts : List Tree} → IsBehind rest ts → IsIn t rest → IsIn t ts
in_behind same i = i
in_behind (later b) i = further (in_behind b i)

-- what holds of what was found: it is past a tree, and a module holds less, which is what stands in one of the trees
record IsWithin (ts : List Tree) (found : Found) : Type 0 where
  past : IsPast found.1 ts
  less : (held : List Tree) → found.0 ≡ holds held → depth (trees_of held) < depth (trees_of ts)
  of : (held : List Tree) → found.0 ≡ holds held → (t : Tree) × IsIn t ts × (held ≡ inside t)

no_module : (form : Form) → Type 0
no_module form = (held : List Tree) → form ≡ holds held → ⊥

ending_within : (form : Form) (ts : List Tree) (r : Option (List Tree)) (found : Found) → no_module form → ((rest : List Tree) → r ≡ Some rest → IsPast rest ts) → ending form r ≡ Some found → IsWithin ts found
unfolding no_module
ending_within form ts None found other goes e = not_none e
ending_within form ts (Some rest) found other goes e =
    let is : (form, rest) ≡ found = some_same e in
    subst (IsWithin ts) is (record { past = goes rest refl; less = λ held h. absurd (other held h); of = λ held h. absurd (other held h) })

passes_other : no_module passes
unfolding no_module
passes_other held e = cc

implements_other : no_module implements
unfolding no_module
implements_other held e = cc

declares_other : (name : Ident) (ts : List Tree) → no_module (declares name ts)
unfolding no_module
declares_other name ts held e = cc

imports_other : no_module imports
unfolding no_module
imports_other held e = cc

alias_by_other : (b : Bool) (name : Option Ident) (ts : List Tree) → no_module (cond b (alias_by name ts) passes)
unfolding no_module
alias_by_other true None ts held e = cc
alias_by_other true (Some name) ts held e = cc
alias_by_other false name ts held e = cc

alias_other : (ts : List Tree) → no_module (alias_of ts)
alias_other [] = passes_other
alias_other (t ∷ []) = passes_other
alias_other (t ∷ u ∷ []) = passes_other
alias_other (t ∷ u ∷ v ∷ ts) = alias_by_other (is_sign (codes "=") v) (ident u) ts

-- past one tree more
one_more : {t : Tree} {ts : List Tree} {found : Found} → IsWithin ts found → IsWithin (t ∷ ts) found
one_more {t = t} {ts = ts} h = record { past = past (weakly h.past); less = λ held e. omega (arith, h.less held e); of = λ held e. let o = h.of held e in (o.0, further o.1, o.2) }

pub listed_trees : (ts : Trees) → trees_of (listed ts) ≡ ts
listed_trees end = refl
listed_trees (t ▸ ts) = ap (λ v. t ▸ v) (listed_trees ts)

inside_less : (t : Tree) → is_curly t ≡ true → depth (trees_of (inside t)) < depth_of t
inside_less (token t) e = cc
inside_less (group b ts s) e = let h = ap depth (listed_trees ts) in omega arith

named_within : (name : Option Ident) (ts : List Tree) (found : Found) → named_or_none name ts ≡ Some found → IsWithin ts found
named_within None ts found e = not_none e
named_within (Some name) ts found e = ending_within (declares name ts) ts (after_block Other 0 ts) found (declares_other name ts) (block_past Other 0 ts) e

declared_within : (ts : List Tree) (found : Found) → declared_at ts ≡ Some found → IsWithin ts found
declared_within [] found e = not_none e
declared_within (t ∷ ts) found e = one_more (named_within (ident t) ts found e)

declaration_within : (ts : List Tree) (found : Found) → declaration_at ts ≡ Some found → IsWithin ts found
declaration_within [] found e = not_none e
declaration_within (t ∷ ts) found e = one_more (declared_within ts found e)

held_by : (t : Tree) (ts : List Tree) (found : Found) (b : Bool) → is_curly t ≡ b → cond b (Some (holds (inside t), ts)) (ending passes (semicolon_at (t ∷ ts))) ≡ Some found → IsWithin (t ∷ ts) found
held_by t ts found true c h =
    let is : (holds (inside t), ts) ≡ found = some_same h in
    let small = inside_less t c in
    subst (IsWithin (t ∷ ts)) is (record {
      past = past same;
      less = λ held g. let inner : inside t ≡ held = cc in subst (λ v. depth (trees_of v) < depth (trees_of (t ∷ ts))) inner (omega arith);
      of = λ held g. let inner : inside t ≡ held = cc in (t, here, sym inner);
    })
held_by t ts found false c h = ending_within passes (t ∷ ts) (semicolon_at (t ∷ ts)) found passes_other (one_past (t ∷ ts)) h

held_within : (ts : List Tree) (found : Found) → held_at ts ≡ Some found → IsWithin ts found
held_within [] found e = not_none e
held_within (t ∷ ts) found e = held_by t ts found (is_curly t) refl e

module_within : (ts : List Tree) (found : Found) → module_at ts ≡ Some found → IsWithin ts found
module_within [] found e = not_none e
module_within (t ∷ []) found e = not_none e
module_within (t ∷ u ∷ ts) found e = elim (either (is_some (word u)) e) [ inl h ↦ one_more (one_more (held_within ts found h)) | inr h ↦ not_none h ]

form_of_within : (k : Kind) (ts : List Tree) (found : Found) → form_of k ts ≡ Some found → IsWithin ts found
form_of_within kinds.Declaration ts found e = declaration_within ts found e
form_of_within kinds.Impl ts found e = ending_within implements ts (after_block Other 0 ts) found implements_other (block_past Other 0 ts) e
form_of_within kinds.Use ts found e = ending_within imports ts (after_semicolon ts) found imports_other (semicolon_past ts) e
form_of_within kinds.Alias ts found e = ending_within (alias_of ts) ts (after_line ts) found (alias_other ts) (line_past ts) e
form_of_within kinds.Module ts found e = module_within ts found e
form_of_within kinds.Line ts found e = ending_within passes ts (after_line ts) found passes_other (line_past ts) e
form_of_within kinds.Block ts found e = ending_within passes ts (after_block Other 0 ts) found passes_other (block_past Other 0 ts) e
form_of_within kinds.Call ts found e = ending_within passes ts (after_call ts) found passes_other (call_past ts) e

form_within : (ts : List Tree) (found : Found) → form_at ts ≡ Some found → IsWithin ts found
unfolding form_at
form_within ts found e = form_of_within (kind_at ts) ts found e

-- ---- type aliases

-- what follows the `=` of a type alias is behind its beginning
abbrev pub IsBehindName : List Tree → Form → Type 0
IsBehindName ts (names name behind) = IsBehind behind ts
IsBehindName ts _ = Unit {0}

ending_behind : (ts : List Tree) (form : Form) (r : Option (List Tree)) (found : Found) → IsBehindName ts form → ending form r ≡ Some found → IsBehindName ts found.0
ending_behind ts form None found h e = not_none e
ending_behind ts form (Some rest) found h e = let is : (form, rest) ≡ found = some_same e in subst (λ (p : Found). IsBehindName ts p.0) is h

alias_by_behind : (b : Bool) (name : Option Ident) (all ts : List Tree) → IsBehind ts all → IsBehindName all (cond b (alias_by name ts) passes)
alias_by_behind true None all ts h = tt
alias_by_behind true (Some name) all ts h = h
alias_by_behind false name all ts h = tt

alias_behind : (ts : List Tree) → IsBehindName ts (alias_of ts)
alias_behind [] = tt
alias_behind (t ∷ []) = tt
alias_behind (t ∷ u ∷ []) = tt
alias_behind (t ∷ u ∷ v ∷ ts) = alias_by_behind (is_sign (codes "=") v) (ident u) (t ∷ u ∷ v ∷ ts) ts (later (later (later same)))

named_behind : (all : List Tree) (name : Option Ident) (ts : List Tree) (found : Found) → named_or_none name ts ≡ Some found → IsBehindName all found.0
named_behind all None ts found e = not_none e
named_behind all (Some name) ts found e = ending_behind all (declares name ts) (after_block Other 0 ts) found tt e

declaration_behind : (all ts : List Tree) (found : Found) → declaration_at ts ≡ Some found → IsBehindName all found.0
declaration_behind all [] found e = not_none e
declaration_behind all (t ∷ []) found e = not_none e
declaration_behind all (t ∷ u ∷ ts) found e = named_behind all (ident u) ts found e

held_behind : (all ts : List Tree) (found : Found) → held_at ts ≡ Some found → IsBehindName all found.0
held_behind all [] found e = not_none e
held_behind all (t ∷ ts) found e = elim (either (is_curly t) e) [
  | inl h ↦ let is : (holds (inside t), ts) ≡ found = some_same h in subst (λ (p : Found). IsBehindName all p.0) is tt
  | inr h ↦ ending_behind all passes (semicolon_at (t ∷ ts)) found tt h
]

module_behind : (all ts : List Tree) (found : Found) → module_at ts ≡ Some found → IsBehindName all found.0
module_behind all [] found e = not_none e
module_behind all (t ∷ []) found e = not_none e
module_behind all (t ∷ u ∷ ts) found e = elim (either (is_some (word u)) e) [ inl h ↦ held_behind all ts found h | inr h ↦ not_none h ]

form_of_behind : (k : Kind) (ts : List Tree) (found : Found) → form_of k ts ≡ Some found → IsBehindName ts found.0
form_of_behind kinds.Declaration ts found e = declaration_behind ts ts found e
form_of_behind kinds.Impl ts found e = ending_behind ts implements (after_block Other 0 ts) found tt e
form_of_behind kinds.Use ts found e = ending_behind ts imports (after_semicolon ts) found tt e
form_of_behind kinds.Module ts found e = module_behind ts ts found e
form_of_behind kinds.Alias ts found e = ending_behind ts (alias_of ts) (after_line ts) found (alias_behind ts) e
form_of_behind kinds.Line ts found e = ending_behind ts passes (after_line ts) found tt e
form_of_behind kinds.Block ts found e = ending_behind ts passes (after_block Other 0 ts) found tt e
form_of_behind kinds.Call ts found e = ending_behind ts passes (after_call ts) found tt e

pub form_behind : (ts : List Tree) (found : Found) → form_at ts ≡ Some found → IsBehindName ts found.0
unfolding form_at
form_behind ts found e = form_of_behind (kind_at ts) ts found e

-- ---- items

written_other : (head : List Tree) (x : Option Implemented) (held : List Tree) → written_by head x ≡ item.holds held → ⊥
written_other head None held e = cc
written_other head (Some x) held e = cc

form_held : (ts start keyword : List Tree) (form : Form) (rest held : List Tree) → item_of ts start keyword form rest ≡ item.holds held → form ≡ holds held
form_held ts start keyword (declares name behind) rest held e = cc
form_held ts start keyword implements rest held e = let head = but_last (before keyword rest) in absurd (written_other head (implemented (outside head)) held e)
form_held ts start keyword (holds inner) rest held e = cc
form_held ts start keyword (names name behind) rest held e = cc
form_held ts start keyword imports rest held e = cc
form_held ts start keyword passes rest held e = cc

held_itself : (b : Bool) (i : Item) (held : List Tree) → cond b passed i ≡ item.holds held → i ≡ item.holds held
held_itself true i held e = cc
held_itself false i held e = e

pub keyword_behind : (ts : List Tree) → IsBehind (after_visibility (after_attributes ts)) ts
keyword_behind ts = then_behind (visibility_behind (after_attributes ts)) (attributes_behind ts)

pub item_past : (ts : List Tree) (i : Item) (rest : List Tree) → item_at ts ≡ Some (i, rest) → IsPast rest ts
unfolding item_at
item_past ts i rest e =
    let start = after_attributes ts in
    let keyword = after_visibility start in
    let m = mapped (item_from ts start keyword) (form_at keyword) _ e in
    let h = form_within keyword m.0 m.1 in
    let is : m.0.1 ≡ rest = ap (λ p. p.1) m.2 in
    subst (λ v. IsPast v ts) is (past_behind h.past (keyword_behind ts))

pub item_held : (ts held rest : List Tree) → item_at ts ≡ Some (item.holds held, rest) → (t : Tree) × IsIn t ts × (held ≡ inside t)
unfolding item_at
item_held ts held rest e =
    let start = after_attributes ts in
    let keyword = after_visibility start in
    let m = mapped (item_from ts start keyword) (form_at keyword) _ e in
    let is : unless_for_tests (before ts start) (item_of ts start keyword m.0.0 m.0.1) ≡ item.holds held = ap (λ p. p.0) m.2 in
    let o = (form_within keyword m.0 m.1).of held (form_held ts start keyword m.0.0 m.0.1 held (held_itself (is_for_tests (before ts start)) (item_of ts start keyword m.0.0 m.0.1) held is)) in
    (o.0, in_behind (keyword_behind ts) o.1, o.2)

pub item_less : (ts held rest : List Tree) → item_at ts ≡ Some (item.holds held, rest) → depth (trees_of held) < depth (trees_of ts)
unfolding item_at
item_less ts held rest e =
    let start = after_attributes ts in
    let keyword = after_visibility start in
    let m = mapped (item_from ts start keyword) (form_at keyword) _ e in
    let h = form_within keyword m.0 m.1 in
    let is : unless_for_tests (before ts start) (item_of ts start keyword m.0.0 m.0.1) ≡ item.holds held = ap (λ p. p.0) m.2 in
    let f = form_held ts start keyword m.0.0 m.0.1 held (held_itself (is_for_tests (before ts start)) (item_of ts start keyword m.0.0 m.0.1) held is) in
    let less = h.less held f in
    let more = depth_behind (keyword_behind ts) in
    omega arith
