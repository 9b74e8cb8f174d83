-- What a declaration is resolved to whose generic parameters are given once.
use Rattle.std.proofs.Common.{◌≡◌, Option, Some, None, Result, IfOk, Bool, true, false, cond}
use Rattle.std.proofs.lemmas.Bool.{false≢true}
use Rattle.std.proofs.lemmas.Result.{IfOk-weaker}
use Rattle.diag.specs.declared.error.DeriveError.{DeriveError}
use Rattle.syntax.specs.Items.{DeclaredItem}
use Rattle.shapes.specs.Declarations.{DeclarationOf}
use Rattle.derive_decl.specs.Lifetimes.{parameters_are_distinct}
use Rattle.derive_decl.specs.Resolved.{Around, declaration_of, resolved_of}

taken : {B : Type 0} (b : Bool) (o : Option B) (x : B) → b ≡ true → o ≡ Some x → cond b o None ≡ Some x
taken true o x holds is = is
taken false o x holds is = absurd (false≢true holds)

pub resolved_once : {A : Type 0} (view : A → DeclarationOf) (r : Result A DeriveError) (around : Around) (d : DeclaredItem) → parameters_are_distinct d.generics ≡ true →
    IfOk r (λ s. declaration_of around d.attrs d.ident d.body ≡ Some (view s)) → IfOk r (λ s. resolved_of around d ≡ Some (view s))
resolved_once view r around d once =
    IfOk-weaker r (λ s. declaration_of around d.attrs d.ident d.body ≡ Some (view s)) (λ s. resolved_of around d ≡ Some (view s))
    (λ s is. taken (parameters_are_distinct d.generics) (declaration_of around d.attrs d.ident d.body) (view s) once is)
