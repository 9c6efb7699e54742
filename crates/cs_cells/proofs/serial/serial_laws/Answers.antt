use Rattle.cs_cells.proofs.SerialRun.{job_at, last_writer, as_serial, foot-serial_jobs, areas-serial_jobs}
use Rattle.cs_cells.proofs.SerialRun.{length-serial_cells}
use Rattle.cs_cells.proofs.serial.serial_laws.Goals as goal

pub returns-clause-once : goal.returns-clause-once
returns-clause-once g c js c' t j at = job_at g.J.Job.means js c' t j at

pub returns-clause-last_writer : goal.returns-clause-last_writer
returns-clause-last_writer g c js c' s = last_writer g.J.Job.means g.met.J.Job.frames js c' s

pub returns-clause-as_serial : goal.returns-clause-as_serial
returns-clause-as_serial g c js c' t j d s at same = as_serial g.J.Job.means g.met.J.Job.frames js c' t j d s at same

pub returns-clause-footprints : goal.returns-clause-footprints
returns-clause-footprints g c js c' = foot-serial_jobs g.J.Job.means g.met.J.Job.frames js c'

pub returns-clause-areas : goal.returns-clause-areas
returns-clause-areas g c js c' = areas-serial_jobs g.J.Job.means g.met.J.Job.frames js c'

pub returns-clause-count : goal.returns-clause-count
returns-clause-count g c js c' = length-serial_cells g.J.Job.means g.met.J.Job.frames js c'
