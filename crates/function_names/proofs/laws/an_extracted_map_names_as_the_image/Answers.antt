use Rattle.function_names.proofs.AcceptedSleds.{maps_name}
use Rattle.function_names.proofs.laws.an_extracted_map_names_as_the_image.Goals as goal

pub returns : goal.returns
returns c = maps_name
