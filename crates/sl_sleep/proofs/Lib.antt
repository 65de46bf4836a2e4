mod WakeLemmas
mod AwakeLemmas
