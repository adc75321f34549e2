-- The lowest item of the mask of identifiers that are created twice; its two lowest creators.
use Rattle.creation.proofs.Creators.{made_once, first_there, first_room, next_there, made_twice}
use Rattle.creation.proofs.check_11.Goals as goal

pub returns-in_default : goal.returns-in_default
returns-in_default c = search made_once

pub unwrap-x-requires : goal.unwrap-x-requires
unwrap-x-requires c = search first_there

pub overflow_add-x : goal.overflow_add-x
overflow_add-x c = search first_room

pub unwrap-y-requires : goal.unwrap-y-requires
unwrap-y-requires c = search next_there

pub returns : goal.returns
returns c = search made_twice
