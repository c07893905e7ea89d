use Rattle.lapi_capture.proofs.OneReading.{faults, limits, frames_told, end_told}
use Rattle.lapi_capture.proofs.LongestCapture.{reading-short}
use Rattle.lapi_capture.proofs.laws.captures_are_read.Goals as goal

pub returns : goal.returns
returns c = record {
  fault = faults;
  limit = limits;
  frames = frames_told;
  end = end_told;
  longest = reading-short;
}
