-- An error that is passed on as it is.
use Rattle.std.proofs.Common.{◌≡◌, Result, Ok, Err, IsErrAnd, ap}

pub passed_on : {T E : Type 0} (error : E) (result : Result T E) → IsErrAnd result (λ same. same ≡ error) → result ≡ Err error
passed_on error (Ok value) is = absurd is
passed_on error (Err same) is = ap Err is
