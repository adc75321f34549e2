-- The bytes of a word one after the other; the highest is what is left of the word.
use Rattle.std.proofs.Common.{◌≡◌, ℕ, ◌/◌, ◌%◌, ◌++◌, List, Result, Option, OnOk, arith, rules}
use Rattle.std.specs.Io.KnownBytes.{Appends}
use Rattle.std.proofs.KnownBytes.{Appends-trans}
use Rattle.std.proofs.lemmas.Result.{on_ok_weaker}
use Rattle.console.proofs.print_hex_word.Goals as goal

then : {T E : Type 0} (x y z : Option (List ℕ)) (a b : List ℕ) (r : Result T E) → Appends x y a → OnOk r (Appends y z b) → OnOk r (Appends x z (a ++ b))
then x y z a b r p e = on_ok_weaker r (Appends-trans x y z a b p) e

pub returns : goal.returns
returns g c =
    let is = c.to_be_bytes.ensures in
    let top : c.args.n / 16777216 % 256 ≡ c.args.n / 16777216 = search (rules, arith) in
    let first = rw (is, top) at c.in_ok-print_hex_byte.ensures in
    let second = rw is at c.in_ok-print_hex_byte-2.ensures in
    let third = rw is at c.in_ok-print_hex_byte-3.ensures in
    let fourth = rw is at c.print_hex_byte-4.ensures in
    then _ _ _ _ _ c.print_hex_byte-4.result (Appends-trans _ _ _ _ _ (Appends-trans _ _ _ _ _ first second) third) fourth
