-- `&&` and `||` that stay shut, so that their two tests can be read off a type.
-- Not to be believed: no believed definition names these.
use Rattle.std.specs.Prelude.{Bool, ◌&&◌, ◌||◌}

unfoldable pub both : Bool → Bool → Bool
both a b = a && b

unfoldable pub either : Bool → Bool → Bool
either a b = a || b
