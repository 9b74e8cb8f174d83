-- What is found at the front of trees stays when more of them follow.
use Rattle.std.proofs.Common.{◌≡◌, ◌∙◌, ℕ, zero, suc, ◌≤◌, ◌-◌, List, [], ◌∷◌, ◌++◌, length, take, refl, ap, ap₂, sym, subst, arith, Bool, true, false, cond, Option, None, Some, is_some, not}
use Rattle.std.proofs.lemmas.List.{take-append-le, length-append}
use Rattle.std.specs.Prelude.{codes, option_map, ◌&&◌, ◌||◌, ◌==◌}
use Rattle.tokens.specs.Trees.{Tree, token, group}
use Rattle.tokens.specs.declared.token.TokenKind.{TokenKind}
use Rattle.tokens.specs.declared.token.TokenKind.TheVariants as token_kinds
use Rattle.written_types.specs.declared.written.Ident.{Ident}
use Rattle.texts.proofs.Laws.{mapped}
use Rattle.prepare.specs.declared.kind.Kind.{Kind}
use Rattle.prepare.specs.declared.kind.Kind.TheVariants as kinds
use Rattle.prepare.specs.Trees.{word_in, sign_in, word, sign, is_text, is_word, is_sign, is_inner_doc, is_outer_doc, is_square, is_curly, is_group, is_path_part, before}
use Rattle.prepare.specs.Attributes.{square_at, bang_at, attribute_at, inner_at, after_all, is_scope, after_visibility, after_attributes, after_inner}
use Rattle.prepare.specs.declared.previous.Behind.{Behind}
use Rattle.prepare.specs.declared.previous.Behind.TheVariants.{Other}
use Rattle.prepare.specs.Ends.{is_declaration_word, behind, after_semicolon, begins_with_name, after_mut, after_line, is_call, is_end, angles, after_block, after_path, after_name, semicolon_at, after_group, behind_path, after_call}
use Rattle.prepare.specs.Forms.{Form, declares, implements, holds, names, imports, passes, Found, kind_by, kind_at, ending, ident, named_or_none, declared_at, declaration_at, held_at, module_at, alias_by, alias_of, alias_at, form_of, form_at}
use Rattle.prepare.specs.Items.{Item, item_of, unless_for_tests, item_from, item_at}
use Rattle.prepare.proofs.Behind.{GoesPast, length_behind, length_past, some_same, not_none}
use Rattle.prepare.proofs.Passed.{visibility_behind}
use Rattle.prepare.proofs.Repeated.{all_step, all_stop, attribute_past, inner_past}

-- ---- choices
module _ {A B : Type 0} where
  pub if_same : (b : Bool) {x y : Option A} {r : A} {x' y' : Option B} {r' : B} → (x ≡ Some r → x' ≡ Some r') → (y ≡ Some r → y' ≡ Some r') → cond b x y ≡ Some r → cond b x' y' ≡ Some r'
  if_same true f g e = f e
  if_same false f g e = g e

  -- where the choice itself may change
  pub if_still : (b b' : Bool) {x : Option A} {r : A} {x' : Option B} {r' : B} → (b ≡ true → b' ≡ true) → (x ≡ Some r → x' ≡ Some r') → cond b x None ≡ Some r → cond b' x' None ≡ Some r'
  if_still true b' {x' = x'} {r' = r'} f g e = subst (λ c. cond c x' None ≡ Some r') (sym (f refl)) (g e)
  if_still false b' f g e = not_none e

-- a reader finds the same where more follows
abbrev pub Stays : (List Tree → Option (List Tree)) → Type 0
Stays one = (ts rest more : List Tree) → one ts ≡ Some rest → one (ts ++ more) ≡ Some (rest ++ more)

first_more : {ts rest : List Tree} (more : List Tree) → Some ts ≡ Some rest → Some (ts ++ more) ≡ Some (rest ++ more)
first_more more e = ap (λ v. Some (v ++ more)) (some_same e)

-- ---- ends
semicolon_more : Stays after_semicolon
semicolon_more [] rest more e = not_none e
semicolon_more (t ∷ ts) rest more e = if_same (is_declaration_word t) not_none (if_same (is_sign (codes ";") t) (first_more more) (semicolon_more ts rest more)) e

named_more : (ts more : List Tree) → begins_with_name ts ≡ true → begins_with_name (ts ++ more) ≡ true
named_more [] more e = cc
named_more (t ∷ []) more e = cc
named_more (t ∷ u ∷ ts) more e = e

mut_if : (b : Bool) (t : Tree) (ts more : List Tree) → begins_with_name (cond b ts (t ∷ ts)) ≡ true → begins_with_name (cond b (ts ++ more) (t ∷ (ts ++ more))) ≡ true
mut_if true t ts more e = named_more ts more e
mut_if false t ts more e = named_more (t ∷ ts) more e

mut_more : (ts more : List Tree) → begins_with_name (after_mut ts) ≡ true → begins_with_name (after_mut (ts ++ more)) ≡ true
mut_more [] more e = cc
mut_more (t ∷ ts) more e = mut_if (is_word (codes "mut") t) t ts more e

line_more : Stays after_line
line_more [] rest more e = not_none e
line_more (t ∷ ts) rest more e = if_still (begins_with_name (after_mut ts)) (begins_with_name (after_mut (ts ++ more))) (mut_more ts more) (semicolon_more ts rest more) e

block_more : (was : Behind) (opened : ℕ) → Stays (after_block was opened)
unfolding after_block
block_more was n [] rest more e = not_none e
block_more was n (t ∷ ts) rest more e = if_same (is_declaration_word t) not_none (if_same (is_end was n t) (first_more more) (block_more (behind was t) (angles was n t) ts rest more)) e

one_more : Stays semicolon_at
one_more [] rest more e = not_none e
one_more (t ∷ ts) rest more e = if_same (is_sign (codes ";") t) (first_more more) not_none e

group_more : Stays after_group
group_more [] rest more e = not_none e
group_more (t ∷ ts) rest more e = if_same (is_curly t) (first_more more) (if_same (is_group t) (one_more ts rest more) not_none) e

name_if : (b : Bool) (t : Tree) (ts rest more : List Tree) → after_group (cond b ts (t ∷ ts)) ≡ Some rest → after_group (cond b (ts ++ more) (t ∷ (ts ++ more))) ≡ Some (rest ++ more)
name_if true t ts rest more e = group_more ts rest more e
name_if false t ts rest more e = group_more (t ∷ ts) rest more e

name_more : (ts rest more : List Tree) → after_group (after_name ts) ≡ Some rest → after_group (after_name (ts ++ more)) ≡ Some (rest ++ more)
name_more [] rest more e = not_none e
name_more (t ∷ ts) rest more e = name_if (is_some (word t)) t ts rest more e

bang_more : Stays behind_path
bang_more [] rest more e = not_none e
bang_more (t ∷ ts) rest more e = if_same (is_sign (codes "!") t) (name_more ts rest more) not_none e

path_if : (b : Bool) (t : Tree) (ts rest more : List Tree) → (behind_path (after_path ts) ≡ Some rest → behind_path (after_path (ts ++ more)) ≡ Some (rest ++ more))
    → behind_path (cond b (after_path ts) (t ∷ ts)) ≡ Some rest → behind_path (cond b (after_path (ts ++ more)) (t ∷ (ts ++ more))) ≡ Some (rest ++ more)
path_if true t ts rest more h e = h e
path_if false t ts rest more h e = bang_more (t ∷ ts) rest more e

path_more : (ts rest more : List Tree) → behind_path (after_path ts) ≡ Some rest → behind_path (after_path (ts ++ more)) ≡ Some (rest ++ more)
path_more [] rest more e = not_none e
path_more (t ∷ ts) rest more e = path_if (is_path_part t) t ts rest more (path_more ts rest more) e

call_more : Stays after_call
call_more [] rest more e = not_none e
call_more (t ∷ ts) rest more e = if_same (is_path_part t) (path_more ts rest more) not_none e

-- ---- forms

-- the form, where these trees follow as well
abbrev pub with_more : Form → List Tree → Form
with_more (declares name ts) more = declares name (ts ++ more)
with_more (names name ts) more = names name (ts ++ more)
with_more implements more = implements
with_more (holds ts) more = holds ts
with_more imports more = imports
with_more passes more = passes

abbrev pub found_more : Found → List Tree → Found
found_more found more = (with_more found.0 more, found.1 ++ more)

abbrev pub FormStays : (List Tree → Option Found) → Type 0
FormStays one = (ts : List Tree) (found : Found) (more : List Tree) → one ts ≡ Some found → one (ts ++ more) ≡ Some (found_more found more)

ending_more : (form : Form) (r s : Option (List Tree)) (found : Found) (more : List Tree) → ((rest : List Tree) → r ≡ Some rest → s ≡ Some (rest ++ more)) → ending form r ≡ Some found → ending (with_more form more) s ≡ Some (found_more found more)
ending_more form None s found more h e = not_none e
ending_more form (Some rest) s found more h e =
    let is : (form, rest) ≡ found = some_same e in
    ap (ending (with_more form more)) (h rest refl) ∙ ap (λ (p : Found). Some (found_more p more)) is

by_name_more : (name : Option Ident) → FormStays (named_or_none name)
by_name_more None ts found more e = not_none e
by_name_more (Some name) ts found more e = ending_more (declares name ts) (after_block Other 0 ts) (after_block Other 0 (ts ++ more)) found more (λ rest. block_more Other 0 ts rest more) e

declared_more : FormStays declared_at
declared_more [] found more e = not_none e
declared_more (t ∷ ts) found more e = by_name_more (ident t) ts found more e

declaration_more : FormStays declaration_at
declaration_more [] found more e = not_none e
declaration_more (t ∷ ts) found more e = declared_more ts found more e

held_more : FormStays held_at
held_more [] found more e = not_none e
held_more (t ∷ ts) found more e =
    if_same (is_curly t) (λ h. ap (λ (p : Found). Some (found_more p more)) (some_same h))
    (ending_more passes (semicolon_at (t ∷ ts)) (semicolon_at (t ∷ (ts ++ more))) found more (λ rest. one_more (t ∷ ts) rest more)) e

module_more : FormStays module_at
module_more [] found more e = not_none e
module_more (t ∷ []) found more e = not_none e
module_more (t ∷ u ∷ ts) found more e = if_same (is_some (word u)) (held_more ts found more) not_none e

alias_by_more : (b : Bool) (name : Option Ident) (ts more : List Tree) → with_more (cond b (alias_by name ts) passes) more ≡ cond b (alias_by name (ts ++ more)) passes
alias_by_more true None ts more = refl
alias_by_more true (Some name) ts more = refl
alias_by_more false name ts more = refl

mut_one : (b : Bool) (t : Tree) → begins_with_name (cond b [] (t ∷ [])) ≡ false
mut_one true t = refl
mut_one false t = refl

alias_more : FormStays alias_at
alias_more [] found more e = not_none e
alias_more (t ∷ []) found more e = not_none e
alias_more (t ∷ u ∷ []) found more e =
    let none = mut_one (is_word (codes "mut") u) u in
    not_none (subst (λ b. ending passes (cond b (after_semicolon (u ∷ [])) None) ≡ Some found) none e)
alias_more (t ∷ u ∷ v ∷ ts) found more e =
    let all = t ∷ u ∷ v ∷ ts in
    subst (λ f. ending f (after_line (all ++ more)) ≡ Some (found_more found more)) (alias_by_more (is_sign (codes "=") v) (ident u) ts more)
    (ending_more (alias_of all) (after_line all) (after_line (all ++ more)) found more (λ rest. line_more all rest more) e)

form_of_more : (k : Kind) → FormStays (form_of k)
form_of_more kinds.Declaration ts found more e = declaration_more ts found more e
form_of_more kinds.Impl ts found more e = ending_more implements (after_block Other 0 ts) (after_block Other 0 (ts ++ more)) found more (λ rest. block_more Other 0 ts rest more) e
form_of_more kinds.Use ts found more e = ending_more imports (after_semicolon ts) (after_semicolon (ts ++ more)) found more (λ rest. semicolon_more ts rest more) e
form_of_more kinds.Module ts found more e = module_more ts found more e
form_of_more kinds.Alias ts found more e = alias_more ts found more e
form_of_more kinds.Line ts found more e = ending_more passes (after_line ts) (after_line (ts ++ more)) found more (λ rest. line_more ts rest more) e
form_of_more kinds.Block ts found more e = ending_more passes (after_block Other 0 ts) (after_block Other 0 (ts ++ more)) found more (λ rest. block_more Other 0 ts rest more) e
form_of_more kinds.Call ts found more e = ending_more passes (after_call ts) (after_call (ts ++ more)) found more (λ rest. call_more ts rest more) e

-- ---- a single tree is no item
sign_by : (k : TokenKind) (text x : List ℕ) → word_in k text ≡ Some x → sign_in k text ≡ None
sign_by token_kinds.Ident text x e = refl
sign_by token_kinds.Lifetime text x e = not_none e
sign_by token_kinds.Literal text x e = not_none e
sign_by token_kinds.Punct text x e = not_none e
sign_by token_kinds.Doc text x e = not_none e

no_sign : (t : Tree) (x : List ℕ) → word t ≡ Some x → sign t ≡ None
no_sign (token t) x e = sign_by t.kind t.text x e
no_sign (group b ts s) x e = not_none e

no_curly : (t : Tree) (x : List ℕ) → word t ≡ Some x → is_curly t ≡ false
no_curly (token t) x e = refl
no_curly (group b ts s) x e = not_none e

both_none : {A : Type 0} (b : Bool) → ◌≡◌ {A = Option A} (cond b None None) None
both_none true = refl
both_none false = refl

ending_none : (form : Form) (r : Option (List Tree)) (found : Found) {X : Type 0} → r ≡ None → ending form r ≡ Some found → X
ending_none form None found h e = not_none e
ending_none form (Some r) found h e = cc

no_end : (a b : Bool) (was : Behind) → a ≡ false → b ≡ false → (a || ((0 == 0) && (b && not (is_call was)))) ≡ false
no_end true b was e h = cc
no_end false true was e h = cc
no_end false false was e h = refl

block_one : (b c : Bool) → c ≡ false → ◌≡◌ {A = Option (List Tree)} (cond b None (cond c (Some []) None)) None
block_one true c e = refl
block_one false true e = cc
block_one false false e = refl

module _ (t : Tree) (no_semicolon : is_sign (codes ";") t ≡ false) (no_block : is_curly t ≡ false) where
  semicolon_none : after_semicolon (t ∷ []) ≡ None
  semicolon_none = block_one (is_declaration_word t) (is_sign (codes ";") t) no_semicolon

  end_none : after_block Other 0 (t ∷ []) ≡ None
  unfolding after_block
  end_none = block_one (is_declaration_word t) (is_end Other 0 t) (no_end (is_sign (codes ";") t) (is_curly t) Other no_semicolon no_block)

  form_none : (k : Kind) (found : Found) {X : Type 0} → form_of k (t ∷ []) ≡ Some found → X
  form_none kinds.Declaration found e = not_none e
  form_none kinds.Impl found e = ending_none implements (after_block Other 0 (t ∷ [])) found end_none e
  form_none kinds.Use found e = ending_none imports (after_semicolon (t ∷ [])) found semicolon_none e
  form_none kinds.Module found e = not_none e
  form_none kinds.Alias found e = not_none e
  form_none kinds.Line found e = not_none e
  form_none kinds.Block found e = ending_none passes (after_block Other 0 (t ∷ [])) found end_none e
  form_none kinds.Call found e = ending_none passes (after_call (t ∷ [])) found (both_none (is_path_part t)) e

single_none : (t : Tree) (o : Option (List ℕ)) (found : Found) {X : Type 0} → word t ≡ o → form_of (kind_by o None) (t ∷ []) ≡ Some found → X
single_none t None found w e = ending_none passes (after_call (t ∷ [])) found (both_none (is_path_part t)) e
single_none t (Some x) found w e = form_none t (ap (is_text (codes ";")) (no_sign t x w)) (no_curly t x w) (kind_by (Some x) None) found e

form_more : FormStays form_at
unfolding form_at
form_more [] found more e = not_none e
form_more (t ∷ []) found more e = single_none t (word t) found refl e
form_more (t ∷ u ∷ ts) found more e = form_of_more (kind_at (t ∷ u ∷ ts)) (t ∷ u ∷ ts) found more e

-- at least two trees are found to be an item
two_at : (ts : List Tree) (found : Found) → form_at ts ≡ Some found → 2 ≤ length ts
unfolding form_at
two_at [] found e = not_none e
two_at (t ∷ []) found e = single_none t (word t) found refl e
two_at (t ∷ u ∷ ts) found e = omega arith

-- ---- readers that are called again and again

-- where this many trees are left, the reader finds no more for those that follow
abbrev Enough : (List Tree → Option (List Tree)) → ℕ → Type 0
Enough one k = (ts more : List Tree) → k ≤ length ts → one ts ≡ None → one (ts ++ more) ≡ None

module _ (one : List Tree → Option (List Tree)) (goes : GoesPast one) (stays : Stays one) (k : ℕ) (enough : Enough one k) where
  mutual
    all_by : (n : ℕ) (ts more : List Tree) (r : Option (List Tree)) → length ts ≤ n → one ts ≡ r → k ≤ length (after_all one ts) → after_all one (ts ++ more) ≡ after_all one ts ++ more
    all_by n ts more None l e h =
        let stop = all_stop one goes ts e in
        let left : k ≤ length ts = subst (λ v. k ≤ length v) stop h in
        all_stop one goes (ts ++ more) (enough ts more left e) ∙ ap (λ v. v ++ more) (sym stop)
    all_by zero ts more (Some rest) l e h = let less = length_past (goes ts rest e) in absurd (omega arith)
    all_by (suc n) ts more (Some rest) l e h =
        let less = length_past (goes ts rest e) in
        let step = all_step one goes ts rest e in
        all_step one goes (ts ++ more) (rest ++ more) (stays ts rest more e) ∙ all_by n rest more (one rest) (omega arith) refl (subst (λ v. k ≤ length v) step h) ∙ ap (λ v. v ++ more) (sym step)

  all_more : (ts more : List Tree) → k ≤ length (after_all one ts) → after_all one (ts ++ more) ≡ after_all one ts ++ more
  all_more ts more h = all_by (length ts) ts more (one ts) (omega arith) refl h

square_more : Stays square_at
square_more [] rest more e = not_none e
square_more (t ∷ ts) rest more e = if_same (is_square t) (first_more more) not_none e

after_bang_more : Stays bang_at
after_bang_more [] rest more e = not_none e
after_bang_more (t ∷ ts) rest more e = if_same (is_sign (codes "!") t) (square_more ts rest more) not_none e

attribute_more : Stays attribute_at
attribute_more [] rest more e = not_none e
attribute_more (t ∷ ts) rest more e = if_same (is_outer_doc t) (first_more more) (if_same (is_sign (codes "#") t) (square_more ts rest more) not_none) e

inner_more : Stays inner_at
inner_more [] rest more e = not_none e
inner_more (t ∷ ts) rest more e = if_same (is_inner_doc t) (first_more more) (if_same (is_sign (codes "#") t) (after_bang_more ts rest more) not_none) e

-- the second of two choices of which neither finds anything
if_none : (b : Bool) {A : Type 0} {x y x' y' : Option A} → (x ≡ None → x' ≡ None) → (y ≡ None → y' ≡ None) → cond b x y ≡ None → cond b x' y' ≡ None
if_none true f g e = f e
if_none false f g e = g e

some_none : {A X : Type 0} {x : A} → Some x ≡ None → X
some_none e = cc

square_enough : Enough square_at 1
square_enough [] more l e = absurd (omega arith)
square_enough (t ∷ ts) more l e = if_none (is_square t) some_none (λ h. h) e

bang_enough : Enough bang_at 2
bang_enough [] more l e = absurd (omega arith)
bang_enough (t ∷ []) more l e = absurd (omega arith)
bang_enough (t ∷ u ∷ ts) more l e = if_none (is_sign (codes "!") t) (square_enough (u ∷ ts) more (omega arith)) (λ h. h) e

attribute_enough : Enough attribute_at 2
attribute_enough [] more l e = absurd (omega arith)
attribute_enough (t ∷ []) more l e = absurd (omega arith)
attribute_enough (t ∷ u ∷ ts) more l e = if_none (is_outer_doc t) some_none (if_none (is_sign (codes "#") t) (square_enough (u ∷ ts) more (omega arith)) (λ h. h)) e

inner_enough : Enough inner_at 3
inner_enough [] more l e = absurd (omega arith)
inner_enough (t ∷ []) more l e = absurd (omega arith)
inner_enough (t ∷ u ∷ []) more l e = absurd (omega arith)
inner_enough (t ∷ u ∷ v ∷ ts) more l e = if_none (is_inner_doc t) some_none (if_none (is_sign (codes "#") t) (bang_enough (u ∷ v ∷ ts) more (omega arith)) (λ h. h)) e

pub attributes_more : (ts more : List Tree) → 2 ≤ length (after_attributes ts) → after_attributes (ts ++ more) ≡ after_attributes ts ++ more
unfolding after_attributes
attributes_more = all_more attribute_at attribute_past attribute_more 2 attribute_enough

pub inner_stays : (ts more : List Tree) → 3 ≤ length (after_inner ts) → after_inner (ts ++ more) ≡ after_inner ts ++ more
unfolding after_inner
inner_stays = all_more inner_at inner_past inner_more 3 inner_enough

-- ---- what stands before the rest
front_more : (n : ℕ) (ts more : List Tree) → n ≤ length ts → take n (ts ++ more) ≡ take n ts
front_more n ts more h = take-append-le n ts more h

pub before_more : (ts rest more : List Tree) → before (ts ++ more) (rest ++ more) ≡ before ts rest
before_more ts rest more =
    let fewer : length (ts ++ more) - length (rest ++ more) ≡ length ts - length rest = omega (arith, length-append ts more, length-append rest more) in
    ap (λ n. take n (ts ++ more)) fewer ∙ front_more (length ts - length rest) ts more (omega arith)

-- ---- items
scope_if : (b : Bool) (t : Tree) (ts more : List Tree) → cond b (ts ++ more) (t ∷ (ts ++ more)) ≡ cond b ts (t ∷ ts) ++ more
scope_if true t ts more = refl
scope_if false t ts more = refl

visibility_if : (b c : Bool) (t u : Tree) (ts more : List Tree) → cond b (cond c (ts ++ more) (u ∷ (ts ++ more))) (t ∷ u ∷ (ts ++ more)) ≡ cond b (cond c ts (u ∷ ts)) (t ∷ u ∷ ts) ++ more
visibility_if true c t u ts more = scope_if c u ts more
visibility_if false c t u ts more = refl

visibility_more : (ts more : List Tree) → 2 ≤ length ts → after_visibility (ts ++ more) ≡ after_visibility ts ++ more
visibility_more [] more l = absurd (omega arith)
visibility_more (t ∷ []) more l = absurd (omega arith)
visibility_more (t ∷ u ∷ ts) more l = visibility_if (is_word (codes "pub") t) (is_scope u) t u ts more

-- the item of a form whose keyword is there
item_of_more : (ts start keyword : List Tree) (form : Form) (rest more : List Tree) → 1 ≤ length keyword → item_of (ts ++ more) (start ++ more) (keyword ++ more) (with_more form more) (rest ++ more) ≡ item_of ts start keyword form rest
item_of_more ts start [] form rest more l = absurd (omega arith)
item_of_more ts start (k ∷ keyword) (declares name behind) rest more l =
    rw (before_more ts start more, before_more behind rest more, before_more ts rest more) refl
item_of_more ts start (k ∷ keyword) implements rest more l = rw (before_more (k ∷ keyword) rest more) refl
item_of_more ts start (k ∷ keyword) (holds inner) rest more l = refl
item_of_more ts start (k ∷ keyword) (names name behind) rest more l = rw (before_more (k ∷ keyword) rest more, before_more behind rest more) refl
item_of_more ts start (k ∷ keyword) imports rest more l = rw (before_more (k ∷ keyword) rest more) refl
item_of_more ts start (k ∷ keyword) passes rest more l = refl

visibility_shorter : (ts : List Tree) → length (after_visibility ts) ≤ length ts
visibility_shorter ts = length_behind (visibility_behind ts)

item_from_more : (ts start keyword : List Tree) (found : Found) (more : List Tree) → 1 ≤ length keyword
    → item_from (ts ++ more) (start ++ more) (keyword ++ more) (found_more found more) ≡ ((item_from ts start keyword found).0, found.1 ++ more)
item_from_more ts start keyword found more l =
    ap (λ i. (i, found.1 ++ more))
    (ap₂ unless_for_tests (before_more ts start more) (item_of_more ts start keyword found.0 found.1 more l))

-- what item the trees begin with does not change where more of them follow
pub item_more : (ts : List Tree) (i : Item) (rest more : List Tree) → item_at ts ≡ Some (i, rest) → item_at (ts ++ more) ≡ Some (i, rest ++ more)
unfolding item_at
item_more ts i rest more e =
    let start = after_attributes ts in
    let keyword = after_visibility start in
    let m = mapped (item_from ts start keyword) (form_at keyword) _ e in
    let two = two_at keyword m.0 m.1 in
    let shorter = visibility_shorter start in
    let start_is : after_attributes (ts ++ more) ≡ start ++ more = attributes_more ts more (omega arith) in
    let keyword_is : after_visibility (start ++ more) ≡ keyword ++ more = visibility_more start more (omega arith) in
    let one : 1 ≤ length keyword = omega arith in
    let found : form_at (keyword ++ more) ≡ Some (found_more m.0 more) = form_more keyword m.0 more m.1 in
    let from : item_from (ts ++ more) (start ++ more) (keyword ++ more) (found_more m.0 more) ≡ (i, rest ++ more) =
    item_from_more ts start keyword m.0 more one ∙ ap (λ (p : Item × List Tree). (p.0, p.1 ++ more)) m.2 in
    ap (λ s. option_map (item_from (ts ++ more) s (after_visibility s)) (form_at (after_visibility s))) start_is
    ∙ ap (λ k. option_map (item_from (ts ++ more) (start ++ more) k) (form_at k)) keyword_is
    ∙ ap (option_map (item_from (ts ++ more) (start ++ more) (keyword ++ more))) found
    ∙ ap Some from
