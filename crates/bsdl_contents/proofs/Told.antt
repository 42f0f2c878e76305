-- What is told of a file's contents is what its strings hold.
use Rattle.std.proofs.Common.{◌≡◌, Result, Ok, Err, sym, ◌∙◌, IfOk, IfErr}
use Rattle.bsdl_device.specs.declared.entries.Contents.{Contents}
use Rattle.bsdl_device.specs.declared.written.File.{File}
use Rattle.bsdl_device.specs.Faults as faults
use Rattle.bsdl_device.specs.Spelled.{HasContents}
use Rattle.bsdl_contents.specs.declared.fault.ContentsFault.{ContentsFault}
use Rattle.bsdl_contents.specs.declared.fault.ContentsFault.TheVariants as contents
use Rattle.bsdl_contents.specs.Outcomes.{TellsAll, IsFault, section_of}
use Rattle.bsdl_contents.specs.Reader.{contents_at}
use Rattle.bsdl_contents.proofs.Held.{contents_sound, contents_complete, contents_wrong}

pub told_ok : (f : File) (r : Result Contents ContentsFault) → TellsAll r (contents_at f) → IfOk r (λ c. HasContents f c)
told_ok f (Ok c) h = contents_sound f c h
told_ok f (Err e) h = tt

pub told_only : (f : File) (r : Result Contents ContentsFault) → TellsAll r (contents_at f) → IfOk r (λ c. (other : Contents) → HasContents f other → other ≡ c)
told_only f (Ok c) h = λ other there. let same : ◌≡◌ {A = Result Contents faults.StringSection} (Ok other) (Ok c) = sym (contents_complete f other there) ∙ h in cc
told_only f (Err e) h = tt

pub told_fault : (f : File) (r : Result Contents ContentsFault) → TellsAll r (contents_at f) → IfErr r (λ e. IsFault f e)
told_fault f (Ok c) h = tt
told_fault f (Err (contents.Section s)) h = contents_wrong f (section_of s) h
told_fault f (Err contents.OutOfMemory) h = tt
