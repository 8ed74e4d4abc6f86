-- What is handed on by a `?`.
use Rattle.std.proofs.Common.{◌≡◌, Result, Ok, Err, IfErr, IsErrAnd, sym, subst}

-- an error that is handed on
pub err_end : {T E : Type 0} (r : Result T E) (e : E) (P : E → Type 0) → IsErrAnd r (λ y. y ≡ e) → P e → IfErr r P
err_end (Ok x) e P h p = tt
err_end (Err y) e P h p = subst P (sym h) p
