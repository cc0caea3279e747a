-- What a `?` returns.
use Rattle.run_session.proofs.Prelude.{◌≡◌, ◌∙◌, Result, Err, IsErrAnd, ap, err_from_is_err_and}

pub returned : {T E : Type 0} (result : Result T E) (error : E) → IsErrAnd result (λ found. found ≡ error) → result ≡ Err error
returned result error is =
    let found = err_from_is_err_and result is in found.1 ∙ ap (λ e. Err e) found.2
