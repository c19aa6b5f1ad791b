use Rattle.memory_map.proofs.EmittedImage.{emitted_image}
use Rattle.memory_map.proofs.emitted_image.Statement.{statement}
use Rattle.memory_map.proofs.emitted_image.Tie as tie

returns : tie.Need-returns
returns c = emitted_image

pub emitted_image_spec : {M : Type 1} → statement M
emitted_image_spec = tie.close (tie.spec returns)
