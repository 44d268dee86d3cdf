-- The law as a whole.
use Rattle.wf_restart_laws.specs.Filed.{DomainsAreReadBack}
use Rattle.wf_restart_laws.specs.ReadBack.{RestartFilesAreReadBack, RestartFilesAreReadBackWhereWritten}
use Rattle.wf_restart_laws.specs.Restarts.{RestartedRunsGoOn}
use Rattle.wf_restart_laws.proofs.DomainsBack.{domains_back}
use Rattle.wf_restart_laws.proofs.FramesBack.{frames_back}
use Rattle.wf_restart_laws.proofs.Glue.{read_back, restarted}
use Rattle.wf_restart_laws.proofs.LaterFrames.{frames_show}
use Rattle.wf_restart_laws.proofs.LaterItems.{overflow_alike}
use Rattle.wf_restart_laws.proofs.SameCalls.{calls_alike}
use Rattle.wf_restart_laws.proofs.SameFiles.{files_alike}
use Rattle.wf_restart_laws.proofs.WhereWritten.{where_written}

pub domains_read : DomainsAreReadBack
domains_read = domains_back frames_back

pub files_read : RestartFilesAreReadBack
files_read = read_back domains_read

pub files_read_there : RestartFilesAreReadBackWhereWritten
files_read_there = where_written files_read

pub whole : RestartedRunsGoOn
whole = restarted files_read frames_show overflow_alike calls_alike files_alike
