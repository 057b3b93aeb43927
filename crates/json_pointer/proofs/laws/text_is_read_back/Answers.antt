use Rattle.json_pointer.proofs.Pointers.{path_of-pointer_text}
use Rattle.json_pointer.proofs.laws.text_is_read_back.Goals as goal

pub returns : goal.returns
returns c = path_of-pointer_text
