pub mod Admitted
mod Places
