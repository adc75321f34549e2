-- What stored cases say of a text and of a verdict.
use Rattle.std.specs.Prelude.{List, ℕ, ◌++◌, codes}
use Rattle.std.specs.Fmt.{decimal}
use Rattle.rules.specs.declared.Text.{Text}
use Rattle.rules.specs.declared.Text.TheVariants.{Plan, Policy}
use Rattle.rules.specs.declared.Verdict.{Verdict}
use Rattle.rules.specs.declared.Verdict.TheVariants.{Accepted, Broken, Unread}

abbrev pub name_of : Text → List ℕ
name_of Plan = codes "plan"
name_of Policy = codes "policy"

-- a verdict on one line
abbrev pub brief_of : Verdict → List ℕ
brief_of Accepted = codes "accepted"
brief_of (Broken b) = codes "broken " ++ decimal b.rule ++ codes " " ++ decimal b.first ++ codes " " ++ decimal b.second ++ codes " " ++ decimal b.identifier
brief_of (Unread f) = codes "unread " ++ name_of f.text ++ codes " " ++ decimal f.number ++ codes " " ++ decimal f.line
