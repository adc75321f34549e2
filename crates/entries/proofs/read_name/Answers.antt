-- The layout first, then the names that stood.
use Rattle.entries.proofs.Names.{name_layout, name_stood, name_is}
use Rattle.entries.proofs.read_name.Goals as goal

pub returns-then-not-is_name : goal.returns-then-not-is_name
returns-then-not-is_name c = search name_layout

pub returns-then-has_stood : goal.returns-then-has_stood
returns-then-has_stood c = search name_stood

pub returns : goal.returns
returns c = search name_is
